use Rattle.reg_file.proofs.WholeLemmas.{stops_in_register, reads_register}
use Rattle.reg_file.proofs.reading.read_in.Goals as goal

pub returns-in-Ok-kept_of-clause-ok : goal.returns-in-Ok-kept_of-clause-ok
returns-in-Ok-kept_of-clause-ok c = reads_register c.args.version c.args.bytes.now c.in-Ok.read.1.now c.in-Ok.ensures c.new.result c.new.ensures c.in-Ok-kept_of.register c.in-Ok-kept_of.ensures.ok

pub returns-clause-err : goal.returns-clause-err
returns-clause-err c = stops_in_register c.args.version c.args.bytes.now c.in-Ok.read.1.now c.in-Ok.ensures c.new.result c.new.ensures c.in-Err-kept_of.stop c.in-Err-kept_of.ensures.err
