use Rattle.std.proofs.Common.{sym, subst}
use Rattle.reg_file.specs.Steps.{ReadsOps}
use Rattle.reg_file.proofs.WholeLemmas.{stops_before, stops_at_end, reads_kept}
use Rattle.reg_file.proofs.contents.kept_of.Goals as goal

pub returns-in-Err-clause-err : goal.returns-in-Err-clause-err
returns-in-Err-clause-err c = stops_before c.args.version c.args.basis.now c.args.bytes.now c.in-Err.stop c.in-Err.ensures.err

pub returns-in-Ok-register_of-clause-ok : goal.returns-in-Ok-register_of-clause-ok
returns-in-Ok-register_of-clause-ok c =
    let x = c.in-Ok.read in
    reads_kept c.args.version c.args.basis.now c.args.bytes.now x.0.items x.1.items x.2 x.3.now c.in-Ok.ensures.ok c.in-Ok-register_of.register c.in-Ok-register_of.ensures.ok

pub returns-clause-err : goal.returns-clause-err
returns-clause-err c =
    let x = c.in-Ok.read in
    let a = subst (λ ps. ReadsOps c.args.version c.args.basis.now c.args.bytes.now x.0.items ps x.2 x.3.now) (sym c.deref.ensures.value) c.in-Ok.ensures.ok in
    stops_at_end c.args.version c.args.basis.now c.args.bytes.now x.0.items c.deref.result.now x.2 x.3.now a c.in-Err-register_of.stop c.in-Err-register_of.ensures.err
