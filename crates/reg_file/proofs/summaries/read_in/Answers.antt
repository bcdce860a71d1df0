use Rattle.reg_file.proofs.WholeLemmas.{stops_behind_summary}
use Rattle.reg_file.proofs.summaries.read_in.Goals as goal

pub returns-in-Err-end_of-clause-err : goal.returns-in-Err-end_of-clause-err
returns-in-Err-end_of-clause-err c =
    stops_behind_summary c.args.version c.args.bytes.now c.in-Ok.read.1.now c.in-Ok.ensures c.new.result c.new.ensures c.in-Ok-seen_of.read.0 c.in-Ok-seen_of.read.1.now c.in-Ok-seen_of.ensures.ok
    c.in-Err-end_of.stop c.in-Err-end_of.ensures.err
