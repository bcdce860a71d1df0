use Rattle.std.proofs.Common.{◌∙◌}
use Rattle.reg_op.specs.Set as set
use Rattle.reg_state.specs.Runs.{seen_of}
use Rattle.reg_state.proofs.OutsideLemmas.{seen_of-outside}
use Rattle.reg_state.proofs.seen.Seen.outside.Goals as goal

pub returns : goal.returns
returns c =
    seen_of-outside _ _ _ c.in_ok-runs.ensures.outside
    ∙ (λ k. set.difference (seen_of (c.deref.ensures.value k)) (seen_of (c.deref-2.ensures.value k)))
    ∙ (λ k. set.difference (c.self.view_is k) (c.other.view_is k))
