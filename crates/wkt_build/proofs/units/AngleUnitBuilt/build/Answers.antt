use Rattle.wkt_grammar.specs.Denotes.{DenotesAngleUnit}
use Rattle.wkt_build.specs.Choices.{angle_unit_as}
use Rattle.wkt_build.proofs.Chosen.{angle_unit_made, as_chosen}
use Rattle.wkt_build.proofs.units.AngleUnitBuilt.build.Goals as goal

pub returns-clause-builds : goal.returns-clause-builds
returns-clause-builds c = as_chosen DenotesAngleUnit angle_unit_as c.args.cursor.now c.build_unit.new.cursor c.next_keyword-keyword.result c.in_ok-unit.unit c.angle_unit_as.result c.next_keyword-keyword.ensures c.angle_unit_as.ensures (angle_unit_made c.args.cursor.now c.build_unit.new.cursor c.in_ok-unit.unit c.in_ok-unit.ensures.builds)
