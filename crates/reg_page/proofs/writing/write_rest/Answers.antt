use Rattle.std.proofs.Common.{[]}
use Rattle.reg_page.proofs.WritingLemmas.{nothing_behind, finished}
use Rattle.reg_page.proofs.writing.write_rest.Goals as goal

pub returns-in-Err-clause-fault : goal.returns-in-Err-clause-fault
returns-in-Err-clause-fault g c = λ first text h. c.in-Err.ensures.fault first text [] (nothing_behind h)

pub returns-in-Ok-pass_on-clause-written : goal.returns-in-Ok-pass_on-clause-written
returns-in-Ok-pass_on-clause-written g c = λ first text h. finished (c.in-Ok-pass_on.ensures.passed first text [] (c.in-Ok.ensures.passed first text [] (nothing_behind h)))

pub returns-in-Err-pass_on-clause-fault : goal.returns-in-Err-pass_on-clause-fault
returns-in-Err-pass_on-clause-fault g c = λ first text h. c.in-Err-pass_on.ensures.fault first text [] (c.in-Ok.ensures.passed first text [] (nothing_behind h))
