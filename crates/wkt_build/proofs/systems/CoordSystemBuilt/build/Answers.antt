use Rattle.std.proofs.Common.{refl}
use Rattle.wkt_grammar.specs.declared.table.Keyword.TheVariants as keywords
use Rattle.wkt_grammar.specs.declared.table.Node.TheVariants as nodes
use Rattle.wkt_grammar.specs.declared.table.SlotName.TheVariants as slots
use Rattle.wkt_grammar.specs.Denotes.{system_fields}
use Rattle.wkt_grammar.proofs.Leaves.{count_law, kind_law}
use Rattle.wkt_grammar.proofs.Nodes.{ident_law}
use Rattle.crs_part.specs.declared.systems.CoordSystem.{CoordSystem}
use Rattle.wkt_build.proofs.Rows.{count_as, done, first_one, made_argument, made_node, then_each, then_one, made_as, each_as}
use Rattle.wkt_build.proofs.systems.CoordSystemBuilt.build.Goals as goal

pub returns-clause-builds : goal.returns-clause-builds
returns-clause-builds c =
    let v : CoordSystem = c.system_of.result in
    made_argument keywords.CoordinateSystem nodes.CoordinateSystem system_fields c.args.cursor.now c.pass-2.new.cursor v
    (made_node nodes.CoordinateSystem system_fields c.args.cursor.now c.pass-2.new.cursor v c.pass.ensures.left
    (first_one slots.Kind kind_law c.pass.new.cursor v.kind (made_as kind_law c.pass.new.cursor c.take_one.new.cursor c.in_ok-kind.kind v.kind c.system_of.ensures.kind c.in_ok-kind.ensures.builds)
    (then_one slots.Dimension count_law c.take_one.new.cursor (record { value = v.dimension; small = v.count }) (count_as c.take_one.new.cursor c.take_one-2.new.cursor c.in_ok-dimension.dimension v.dimension v.count c.system_of.ensures.dimension c.in_ok-dimension.ensures.builds)
    (then_each slots.Id ident_law refl c.take_one-2.new.cursor v.ids (each_as ident_law c.take_one-2.new.cursor c.take_each.new.cursor c.in_ok-ids.ids v.ids c.system_of.ensures.ids c.in_ok-ids.ensures.builds)
    (done c.take_each.new.cursor)))) c.pass-2.ensures.left)
