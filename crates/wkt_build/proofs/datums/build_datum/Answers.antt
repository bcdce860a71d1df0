use Rattle.std.proofs.Common.{refl}
use Rattle.wkt_grammar.specs.declared.table.Node.TheVariants as nodes
use Rattle.wkt_grammar.specs.declared.table.SlotName.TheVariants as slots
use Rattle.wkt_grammar.specs.Denotes.{datum_fields}
use Rattle.wkt_grammar.proofs.Leaves.{text_law}
use Rattle.wkt_grammar.proofs.Nodes.{anchor_law, ellipsoid_law, ident_law}
use Rattle.crs_part.specs.declared.datums.Datum.{Datum}
use Rattle.wkt_build.proofs.Rows.{done, first_one, made_node, then_each, then_maybe, then_one}
use Rattle.wkt_build.proofs.datums.build_datum.Goals as goal

pub returns-clause-builds : goal.returns-clause-builds
returns-clause-builds c =
    let v : Datum = record { name = c.in_ok-name.name; ellipsoid = c.in_ok-ellipsoid.ellipsoid; anchor = c.in_ok-anchor.anchor; ids = c.in_ok-ids.ids } in
    made_node nodes.Datum datum_fields c.args.cursor.now c.pass-2.new.cursor v c.pass.ensures.left
    (first_one slots.Name text_law c.pass.new.cursor c.in_ok-name.name c.in_ok-name.ensures.builds
    (then_one slots.Ellipsoid ellipsoid_law c.take_one.new.cursor c.in_ok-ellipsoid.ellipsoid c.in_ok-ellipsoid.ensures.builds
    (then_maybe slots.Anchor anchor_law refl c.take_one-2.new.cursor c.in_ok-anchor.anchor c.in_ok-anchor.ensures.some c.in_ok-anchor.ensures.none c.in_ok-anchor.ensures.absent
    (then_each slots.Id ident_law refl c.take_maybe_value.new.cursor c.in_ok-ids.ids c.in_ok-ids.ensures.builds
    (done c.take_each.new.cursor))))) c.pass-2.ensures.left
