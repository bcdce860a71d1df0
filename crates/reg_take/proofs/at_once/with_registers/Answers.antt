use Rattle.reg_take.proofs.AtOnceLemmas.{registers_next}
use Rattle.reg_take.proofs.at_once.with_registers.Goals as goal

pub loop-arrival-preserved : goal.loop-arrival-preserved
loop-arrival-preserved c = registers_next _ _ _ _ _ _ c.in-Some.ensures.cases.0 c.in_ok-push_register.ensures c.loop-arrival.invariant
