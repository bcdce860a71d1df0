use Rattle.std.proofs.Common.{sym, subst}
use Rattle.reg_state.proofs.OutsideLemmas.{IsGoing, went_on}
use Rattle.reg_state.proofs.seen_outside.runs_outside.Goals as goal

pub loop-run-preserved : goal.loop-run-preserved
loop-run-preserved c =
    subst (λ out. IsGoing out c.in-Some.rest c.args.left.now c.args.right.now) (sym c.in_ok-push.ensures.items)
    (went_on _ _ _ _ _ _ c.loop-run.invariant c.in-Some.ensures.taken)
