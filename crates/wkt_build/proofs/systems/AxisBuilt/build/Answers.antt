use Rattle.std.proofs.Common.{refl}
use Rattle.wkt_grammar.specs.declared.table.Keyword.TheVariants as keywords
use Rattle.wkt_grammar.specs.declared.table.Node.TheVariants as nodes
use Rattle.wkt_grammar.specs.declared.table.SlotName.TheVariants as slots
use Rattle.wkt_grammar.specs.Denotes.{axis_fields}
use Rattle.wkt_grammar.proofs.Leaves.{direction_law, text_law}
use Rattle.wkt_grammar.proofs.Nodes.{ident_law, meridian_law, order_law, unit_law}
use Rattle.crs_part.specs.declared.systems.Axis.{Axis}
use Rattle.wkt_build.proofs.Rows.{done, first_one, made_argument, made_node, then_each, then_maybe, then_one}
use Rattle.wkt_build.proofs.systems.AxisBuilt.build.Goals as goal

pub returns-clause-builds : goal.returns-clause-builds
returns-clause-builds c =
    let v : Axis = record { name = c.in_ok-name.name; direction = c.in_ok-direction.direction; meridian = c.in_ok-meridian.meridian; order = c.in_ok-order.order; unit = c.in_ok-unit.unit; ids = c.in_ok-ids.ids } in
    made_argument keywords.Axis nodes.Axis axis_fields c.args.cursor.now c.pass-2.new.cursor v
    (made_node nodes.Axis axis_fields c.args.cursor.now c.pass-2.new.cursor v c.pass.ensures.left
    (first_one slots.Name text_law c.pass.new.cursor c.in_ok-name.name c.in_ok-name.ensures.builds
    (then_one slots.Direction direction_law c.take_one.new.cursor c.in_ok-direction.direction c.in_ok-direction.ensures.builds
    (then_maybe slots.Meridian meridian_law refl c.take_one-2.new.cursor c.in_ok-meridian.meridian c.in_ok-meridian.ensures.some c.in_ok-meridian.ensures.none c.in_ok-meridian.ensures.absent
    (then_maybe slots.Order order_law refl c.take_maybe.new.cursor c.in_ok-order.order c.in_ok-order.ensures.some c.in_ok-order.ensures.none c.in_ok-order.ensures.absent
    (then_maybe slots.Unit unit_law refl c.take_maybe-2.new.cursor c.in_ok-unit.unit c.in_ok-unit.ensures.some c.in_ok-unit.ensures.none c.in_ok-unit.ensures.absent
    (then_each slots.Id ident_law refl c.take_maybe-3.new.cursor c.in_ok-ids.ids c.in_ok-ids.ensures.builds
    (done c.take_each.new.cursor))))))) c.pass-2.ensures.left)
