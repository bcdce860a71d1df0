use Rattle.std.proofs.Common.{inr}
use Rattle.reg_export.proofs.formats.run_handed.Goals as goal

pub returns-clause-fault : goal.returns-clause-fault
returns-clause-fault g c = inr (c.in-Ok.register, c.in-Ok.ensures.came, c.in-Err-write_chosen.ensures.fault)
