use Rattle.std.proofs.Common.{sym}
use Rattle.crs_part.specs.declared.systems.Direction.TheVariants as to
use Rattle.crs_part.specs.Words.{direction_word, directions_listed}
use Rattle.wkt_grammar.specs.Words.{is_direction}
use Rattle.wkt_tree.specs.Faults.{view}
use Rattle.wkt_build.proofs.LeafLemmas.{word_takes, word_lost, passed, direction_listed}
use Rattle.wkt_build.proofs.words.take_direction.Goals as goal

pub returns-in-Some-of_word-clause-takes : goal.returns-in-Some-of_word-clause-takes
returns-in-Some-of_word-clause-takes c =
    word_takes is_direction direction_word directions_listed c.args.cursor.now c.advance.new.self c.in-Some.token.bytes.now c.in-Some-of_word.direction
    (passed c.args.cursor.now c.advance.new.self (view c.in-Some.token) c.in-Some.ensures.comes c.advance.ensures) (sym c.in-Some-of_word.ensures)

pub returns-in-None-clause-takes : goal.returns-in-None-clause-takes
returns-in-None-clause-takes c =
    word_lost is_direction direction_word directions_listed c.args.cursor.now c.advance.new.self c.in-Some.token.bytes.now to.Up direction_listed
    (passed c.args.cursor.now c.advance.new.self (view c.in-Some.token) c.in-Some.ensures.comes c.advance.ensures) (sym c.in-None.ensures)
