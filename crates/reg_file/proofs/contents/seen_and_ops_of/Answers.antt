use Rattle.std.proofs.Common.{arith}
use Rattle.reg_file.proofs.FieldLemmas.{IsBytes}
use Rattle.reg_file.proofs.WholeLemmas.{stops_in_seen, stops_in_count, stops_in_ops, ops_read}
use Rattle.reg_file.proofs.contents.seen_and_ops_of.Goals as goal

pub returns-in-Err-clause-err : goal.returns-in-Err-clause-err
returns-in-Err-clause-err c = stops_in_seen c.args.version c.args.basis.now c.args.bytes.now c.in-Err.stop c.in-Err.ensures.err

pub returns-in-Err-number_of-clause-err : goal.returns-in-Err-number_of-clause-err
returns-in-Err-number_of-clause-err c =
    stops_in_count c.args.version c.args.basis.now c.args.bytes.now c.in-Ok.read.0 c.in-Ok.read.1.now c.in-Ok.ensures.ok c.in-Err-number_of.stop c.in-Err-number_of.ensures

pub returns-in-Err-ops_of-clause-err : goal.returns-in-Err-ops_of-clause-err
returns-in-Err-ops_of-clause-err c =
    stops_in_ops c.args.version c.args.basis.now c.args.bytes.now c.in-Ok.read.0 c.in-Ok.read.1.now c.in-Ok.ensures.ok c.in-Ok-number_of.read.0 c.in-Ok-number_of.read.1.now c.in-Ok-number_of.ensures
    c.in-Err-ops_of.stop c.in-Err-ops_of.ensures.err

pub returns-clause-ok : goal.returns-clause-ok
returns-clause-ok c =
    let fits : IsBytes c.args.bytes.now = λ i. omega (arith, c.type_inv.bytes i) in
    let e = c.in-Ok-ops_of.ensures.ok in
    ops_read c.args.version c.args.basis.now c.args.bytes.now c.in-Ok.read.0 c.in-Ok.read.1.now c.in-Ok.ensures.ok c.in-Ok-number_of.read.0 c.in-Ok-number_of.read.1.now c.in-Ok-number_of.ensures
    c.in-Ok-ops_of.read.0.items c.in-Ok-ops_of.read.1.items c.in-Ok-ops_of.read.2.now e.0 e.1 fits
