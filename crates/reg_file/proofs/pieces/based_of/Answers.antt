use Rattle.std.proofs.Common.{sym, subst}
use Rattle.reg_file.specs.Steps.{ReadsOps}
use Rattle.reg_file.proofs.WholeLemmas.{stops_in_basis, stops_behind_basis, stops_before, stops_at_end, reads_based}
use Rattle.reg_file.proofs.pieces.based_of.Goals as goal

pub returns-in-Err-clause-err : goal.returns-in-Err-clause-err
returns-in-Err-clause-err c = stops_in_basis c.args.version c.args.bytes.now c.new.result c.new.ensures c.in-Err.stop c.in-Err.ensures.err

pub returns-in-Err-seen_and_ops_of-clause-err : goal.returns-in-Err-seen_and_ops_of-clause-err
returns-in-Err-seen_and_ops_of-clause-err c =
    let basis = c.in-Ok.read.0 in
    let rest = c.in-Ok.read.1.now in
    let s = c.in-Err-seen_and_ops_of.stop in
    stops_behind_basis c.args.version c.args.bytes.now c.new.result c.new.ensures basis rest c.in-Ok.ensures.ok s (stops_before c.args.version basis rest s c.in-Err-seen_and_ops_of.ensures.err)

pub returns-in-Ok-piece_of-clause-ok : goal.returns-in-Ok-piece_of-clause-ok
returns-in-Ok-piece_of-clause-ok c =
    let x = c.in-Ok-seen_and_ops_of.read in
    reads_based c.args.version c.args.bytes.now c.new.result c.new.ensures c.in-Ok.read.0 c.in-Ok.read.1.now c.in-Ok.ensures.ok c.in-Ok-piece_of.piece x.0.items x.1.items x.2 x.3.now
    c.in-Ok-seen_and_ops_of.ensures.ok c.in-Ok-piece_of.ensures.ok

pub returns-clause-err : goal.returns-clause-err
returns-clause-err c =
    let basis = c.in-Ok.read.0 in
    let rest = c.in-Ok.read.1.now in
    let x = c.in-Ok-seen_and_ops_of.read in
    let s = c.in-Err-piece_of.stop in
    let a = subst (λ ps. ReadsOps c.args.version basis rest x.0.items ps x.2 x.3.now) (sym c.deref.ensures.value) c.in-Ok-seen_and_ops_of.ensures.ok in
    stops_behind_basis c.args.version c.args.bytes.now c.new.result c.new.ensures basis rest c.in-Ok.ensures.ok s (stops_at_end c.args.version basis rest x.0.items c.deref.result.now x.2 x.3.now a s c.in-Err-piece_of.ensures.err)
