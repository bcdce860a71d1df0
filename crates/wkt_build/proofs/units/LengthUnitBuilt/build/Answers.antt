use Rattle.wkt_grammar.specs.Denotes.{DenotesLengthUnit}
use Rattle.wkt_build.specs.Choices.{length_unit_as}
use Rattle.wkt_build.proofs.Chosen.{length_unit_made, as_chosen}
use Rattle.wkt_build.proofs.units.LengthUnitBuilt.build.Goals as goal

pub returns-clause-builds : goal.returns-clause-builds
returns-clause-builds c = as_chosen DenotesLengthUnit length_unit_as c.args.cursor.now c.build_unit.new.cursor c.next_keyword-keyword.result c.in_ok-unit.unit c.length_unit_as.result c.next_keyword-keyword.ensures c.length_unit_as.ensures (length_unit_made c.args.cursor.now c.build_unit.new.cursor c.in_ok-unit.unit c.in_ok-unit.ensures.builds)
