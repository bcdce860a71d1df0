use Rattle.reg_file.proofs.WholeLemmas.{stops_in_piece}
use Rattle.reg_file.proofs.pieces.read_in.Goals as goal

pub returns-in-Ok-based_of-clause-ok : goal.returns-in-Ok-based_of-clause-ok
returns-in-Ok-based_of-clause-ok c = record { rest = c.in-Ok.read.1.now; head = c.in-Ok.ensures; based = c.in-Ok-based_of.ensures.ok }

pub returns-in-Err-based_of-clause-err : goal.returns-in-Err-based_of-clause-err
returns-in-Err-based_of-clause-err c = stops_in_piece c.args.version c.args.bytes.now c.in-Ok.read.1.now c.in-Ok.ensures c.in-Err-based_of.stop c.in-Err-based_of.ensures.err
