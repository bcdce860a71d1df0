use Rattle.wkt_tree.specs.Cut.{cut}
use Rattle.wkt_grammar.proofs.Whole.{clean, first_is}
use Rattle.wkt_grammar.proofs.tier.check_slots.Goals as goal

pub returns-in-Ok-clause-ok : goal.returns-in-Ok-clause-ok
returns-in-Ok-clause-ok c = clean c.args.edition c.args.outline.now (cut 0 c.args.outline.now) c.cursor-cursor.ensures.outline.cut c.cursor-cursor.result c.check_argument.new.cursor c.cursor-cursor.ensures.tokens c.in-Ok.field-0 c.in-Ok.ensures.answers

pub returns-in-Err-clause-err : goal.returns-in-Err-clause-err
returns-in-Err-clause-err c = first_is c.args.edition c.args.outline.now (cut 0 c.args.outline.now) c.cursor-cursor.ensures.outline.cut c.cursor-cursor.result c.check_argument.new.cursor c.cursor-cursor.ensures.tokens c.in-Err.fault c.in-Err.ensures.answers
