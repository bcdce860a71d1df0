use Rattle.std.proofs.Common.{refl}
use Rattle.wkt_grammar.specs.declared.table.Keyword.TheVariants as keywords
use Rattle.wkt_grammar.specs.declared.table.Node.TheVariants as nodes
use Rattle.wkt_grammar.specs.declared.table.SlotName.TheVariants as slots
use Rattle.wkt_grammar.specs.Denotes.{ellipsoid_fields}
use Rattle.wkt_grammar.proofs.Leaves.{number_law, text_law}
use Rattle.wkt_grammar.proofs.Nodes.{ident_law, length_unit_law}
use Rattle.crs_part.specs.declared.datums.Ellipsoid.{Ellipsoid}
use Rattle.wkt_build.proofs.Rows.{done, first_one, made_argument, made_node, then_each, then_maybe, then_one}
use Rattle.wkt_build.proofs.datums.EllipsoidBuilt.build.Goals as goal

pub returns-clause-builds : goal.returns-clause-builds
returns-clause-builds c =
    let v : Ellipsoid = record { name = c.in_ok-name.name; radius = c.in_ok-radius.radius; flattening = c.in_ok-flattening.flattening; unit = c.in_ok-unit.unit; ids = c.in_ok-ids.ids } in
    made_argument keywords.Ellipsoid nodes.Ellipsoid ellipsoid_fields c.args.cursor.now c.pass-2.new.cursor v
    (made_node nodes.Ellipsoid ellipsoid_fields c.args.cursor.now c.pass-2.new.cursor v c.pass.ensures.left
    (first_one slots.Name text_law c.pass.new.cursor c.in_ok-name.name c.in_ok-name.ensures.builds
    (then_one slots.Radius number_law c.take_one.new.cursor c.in_ok-radius.radius c.in_ok-radius.ensures.builds
    (then_one slots.Flattening number_law c.take_one-2.new.cursor c.in_ok-flattening.flattening c.in_ok-flattening.ensures.builds
    (then_maybe slots.Unit length_unit_law refl c.take_one-3.new.cursor c.in_ok-unit.unit c.in_ok-unit.ensures.some c.in_ok-unit.ensures.none c.in_ok-unit.ensures.absent
    (then_each slots.Id ident_law refl c.take_maybe.new.cursor c.in_ok-ids.ids c.in_ok-ids.ensures.builds
    (done c.take_each.new.cursor)))))) c.pass-2.ensures.left)
