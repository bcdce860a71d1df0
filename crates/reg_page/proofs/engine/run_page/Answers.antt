use Rattle.std.proofs.Common.{inr}
use Rattle.reg_page.proofs.engine.run_page.Goals as goal

pub returns-clause-fault : goal.returns-clause-fault
returns-clause-fault g c = inr (c.in-Ok.register, c.in-Ok.ensures.came, c.in-Err-print_page.ensures.fault)
