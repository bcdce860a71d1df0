use Rattle.wkt_grammar.specs.Denotes.{DenotesUnit}
use Rattle.wkt_build.specs.Choices.{unit_as}
use Rattle.wkt_build.proofs.Chosen.{unit_made, as_chosen}
use Rattle.wkt_build.proofs.units.UnitBuilt.build.Goals as goal

pub returns-clause-builds : goal.returns-clause-builds
returns-clause-builds c = as_chosen DenotesUnit unit_as c.args.cursor.now c.build_unit.new.cursor c.next_keyword-keyword.result c.in_ok-unit.unit c.unit_as.result c.next_keyword-keyword.ensures c.unit_as.ensures (unit_made c.args.cursor.now c.build_unit.new.cursor c.in_ok-unit.unit c.in_ok-unit.ensures.builds)
