use Rattle.std.proofs.Common.{refl}
use Rattle.reg_desk.proofs.LookLemmas.{all_left}
use Rattle.reg_desk.proofs.status.run_status.Goals as goal

pub returns-in_default-status_text-clause-fault : goal.returns-in_default-status_text-clause-fault
returns-in_default-status_text-clause-fault g c = (all_left g.T.Inspect.looks g.T.Inspect.stays c.args.files.now c.looks_of.new.files c.in-Ok.looks.items c.in-Ok.ensures.looks, refl)
