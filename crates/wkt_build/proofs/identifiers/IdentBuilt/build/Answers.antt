use Rattle.std.proofs.Common.{refl}
use Rattle.wkt_grammar.specs.declared.table.Keyword.TheVariants as keywords
use Rattle.wkt_grammar.specs.declared.table.Node.TheVariants as nodes
use Rattle.wkt_grammar.specs.declared.table.SlotName.TheVariants as slots
use Rattle.wkt_grammar.specs.Denotes.{ident_fields}
use Rattle.wkt_grammar.proofs.Leaves.{code_law, text_law}
use Rattle.wkt_grammar.proofs.Nodes.{citation_law, uri_law}
use Rattle.crs_part.specs.declared.identifiers.Ident.{Ident}
use Rattle.wkt_build.proofs.Rows.{done, first_one, made_argument, made_node, then_maybe, then_one}
use Rattle.wkt_build.proofs.identifiers.IdentBuilt.build.Goals as goal

pub returns-clause-builds : goal.returns-clause-builds
returns-clause-builds c =
    let v : Ident = record { authority = c.in_ok-authority.authority; code = c.in_ok-code.code; version = c.in_ok-version.version; citation = c.in_ok-citation.citation; uri = c.in_ok-uri.uri } in
    made_argument keywords.Identifier nodes.Identifier ident_fields c.args.cursor.now c.pass-2.new.cursor v
    (made_node nodes.Identifier ident_fields c.args.cursor.now c.pass-2.new.cursor v c.pass.ensures.left
    (first_one slots.Authority text_law c.pass.new.cursor c.in_ok-authority.authority c.in_ok-authority.ensures.builds
    (then_one slots.Code code_law c.take_one.new.cursor c.in_ok-code.code c.in_ok-code.ensures.builds
    (then_maybe slots.Version code_law refl c.take_one-2.new.cursor c.in_ok-version.version c.in_ok-version.ensures.some c.in_ok-version.ensures.none c.in_ok-version.ensures.absent
    (then_maybe slots.Citation citation_law refl c.take_maybe.new.cursor c.in_ok-citation.citation c.in_ok-citation.ensures.some c.in_ok-citation.ensures.none c.in_ok-citation.ensures.absent
    (then_maybe slots.Uri uri_law refl c.take_maybe_value.new.cursor c.in_ok-uri.uri c.in_ok-uri.ensures.some c.in_ok-uri.ensures.none c.in_ok-uri.ensures.absent
    (done c.take_maybe_value-2.new.cursor)))))) c.pass-2.ensures.left)
