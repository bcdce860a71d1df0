use Rattle.reg_supersede.proofs.DoneLemmas.{has_more}
use Rattle.reg_supersede.proofs.list.push_done.Goals as goal

pub returns-clause-done : goal.returns-clause-done
returns-clause-done c = has_more c.args.line c.args.done.now c.insert.new.self (λ q. c.in_ok-insert.ensures.updates.0 q)
