use Rattle.std.proofs.Common.{◌++◌}
use Rattle.reg_export.proofs.WrittenLemmas.{made, finished}
use Rattle.reg_export.proofs.waiting.finish.Goals as goal

pub returns-in-Ok-clause-written : goal.returns-in-Ok-clause-written
returns-in-Ok-clause-written g c = λ first text h.
    finished (c.in-Ok.ensures.passed first (text ++ c.args.end.now) (made c.args.end.now h c.in_default.ensures.items))

pub returns-in-Err-pass_on-clause-fault : goal.returns-in-Err-pass_on-clause-fault
returns-in-Err-pass_on-clause-fault g c = λ first text h.
    c.in-Err-pass_on.ensures.fault first (text ++ c.args.end.now) (made c.args.end.now h c.in_default.ensures.items)
