use Rattle.std.proofs.Common.{refl}
use Rattle.wkt_grammar.specs.declared.table.Node.TheVariants as nodes
use Rattle.wkt_grammar.specs.declared.table.SlotName.TheVariants as slots
use Rattle.wkt_grammar.specs.Denotes.{named_fields}
use Rattle.wkt_grammar.proofs.Leaves.{text_law}
use Rattle.wkt_grammar.proofs.Nodes.{ident_law}
use Rattle.crs_part.specs.declared.identifiers.Named.{Named}
use Rattle.wkt_build.proofs.Rows.{done, first_one, made_node, then_each}
use Rattle.wkt_build.proofs.identifiers.build_named.Goals as goal

pub returns-clause-builds : goal.returns-clause-builds
returns-clause-builds c =
    let v : Named = record { name = c.in_ok-name.name; ids = c.in_ok-ids.ids } in
    made_node nodes.Named named_fields c.args.cursor.now c.pass-2.new.cursor v c.pass.ensures.left
    (first_one slots.Name text_law c.pass.new.cursor c.in_ok-name.name c.in_ok-name.ensures.builds
    (then_each slots.Id ident_law refl c.take_one.new.cursor c.in_ok-ids.ids c.in_ok-ids.ensures.builds
    (done c.take_each.new.cursor))) c.pass-2.ensures.left
