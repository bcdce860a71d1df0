use Rattle.wkt_grammar.specs.declared.table.Takes.TheVariants as kinds
use Rattle.wkt_grammar.specs.Words.{is_direction}
use Rattle.crs_part.specs.Words.{direction_word}
use Rattle.wkt_build.proofs.LeafLemmas.{word_made, direction_item}
use Rattle.wkt_build.proofs.words.DirectionBuilt.build.Goals as goal

pub returns-clause-builds : goal.returns-clause-builds
returns-clause-builds c = word_made kinds.Direction is_direction direction_word c.args.cursor.now c.take_direction.new.cursor c.take_direction.result direction_item c.take_direction.ensures.takes
