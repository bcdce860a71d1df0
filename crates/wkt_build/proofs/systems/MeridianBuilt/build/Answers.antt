use Rattle.wkt_grammar.specs.declared.table.Keyword.TheVariants as keywords
use Rattle.wkt_grammar.specs.declared.table.Node.TheVariants as nodes
use Rattle.wkt_grammar.specs.declared.table.SlotName.TheVariants as slots
use Rattle.wkt_grammar.specs.Denotes.{meridian_fields}
use Rattle.wkt_grammar.proofs.Leaves.{number_law}
use Rattle.wkt_grammar.proofs.Nodes.{angle_unit_law}
use Rattle.crs_part.specs.declared.systems.Meridian.{Meridian}
use Rattle.wkt_build.proofs.Rows.{done, first_one, made_argument, made_node, then_one}
use Rattle.wkt_build.proofs.systems.MeridianBuilt.build.Goals as goal

pub returns-clause-builds : goal.returns-clause-builds
returns-clause-builds c =
    let v : Meridian = record { longitude = c.in_ok-longitude.longitude; unit = c.in_ok-unit.unit } in
    made_argument keywords.Meridian nodes.Meridian meridian_fields c.args.cursor.now c.pass-2.new.cursor v
    (made_node nodes.Meridian meridian_fields c.args.cursor.now c.pass-2.new.cursor v c.pass.ensures.left
    (first_one slots.Longitude number_law c.pass.new.cursor c.in_ok-longitude.longitude c.in_ok-longitude.ensures.builds
    (then_one slots.Unit angle_unit_law c.take_one.new.cursor c.in_ok-unit.unit c.in_ok-unit.ensures.builds
    (done c.take_one-2.new.cursor))) c.pass-2.ensures.left)
