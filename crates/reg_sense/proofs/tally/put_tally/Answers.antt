use Rattle.reg_sense.proofs.tally.put_tally.Goals as goal

pub returns : goal.returns
returns c = λ q. c.in_ok-insert.ensures.updates.0 q
