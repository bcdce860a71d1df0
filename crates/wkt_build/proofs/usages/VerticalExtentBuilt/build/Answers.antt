use Rattle.std.proofs.Common.{refl}
use Rattle.wkt_grammar.specs.declared.table.Keyword.TheVariants as keywords
use Rattle.wkt_grammar.specs.declared.table.Node.TheVariants as nodes
use Rattle.wkt_grammar.specs.declared.table.SlotName.TheVariants as slots
use Rattle.wkt_grammar.specs.Denotes.{vertical_extent_fields}
use Rattle.wkt_grammar.proofs.Leaves.{number_law}
use Rattle.wkt_grammar.proofs.Nodes.{length_unit_law}
use Rattle.crs_part.specs.declared.usages.VerticalExtent.{VerticalExtent}
use Rattle.wkt_build.proofs.Rows.{done, first_one, made_argument, made_node, then_maybe, then_one}
use Rattle.wkt_build.proofs.usages.VerticalExtentBuilt.build.Goals as goal

pub returns-clause-builds : goal.returns-clause-builds
returns-clause-builds c =
    let v : VerticalExtent = record { low = c.in_ok-low.low; high = c.in_ok-high.high; unit = c.in_ok-unit.unit } in
    made_argument keywords.VerticalExtent nodes.VerticalExtent vertical_extent_fields c.args.cursor.now c.pass-2.new.cursor v
    (made_node nodes.VerticalExtent vertical_extent_fields c.args.cursor.now c.pass-2.new.cursor v c.pass.ensures.left
    (first_one slots.Low number_law c.pass.new.cursor c.in_ok-low.low c.in_ok-low.ensures.builds
    (then_one slots.High number_law c.take_one.new.cursor c.in_ok-high.high c.in_ok-high.ensures.builds
    (then_maybe slots.Unit length_unit_law refl c.take_one-2.new.cursor c.in_ok-unit.unit c.in_ok-unit.ensures.some c.in_ok-unit.ensures.none c.in_ok-unit.ensures.absent
    (done c.take_maybe.new.cursor)))) c.pass-2.ensures.left)
