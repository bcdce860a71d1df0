use Rattle.std.proofs.Common.{◌∙◌}
use Rattle.reg_op.specs.Pieces.{first_missing}
use Rattle.reg_state.specs.Runs.{seen_of}
use Rattle.reg_state.proofs.OutsideLemmas.{is_difference, missing_is}
use Rattle.reg_state.proofs.seen.Seen.first_outside.Goals as goal

pub returns : goal.returns
returns c =
    missing_is c.first_id_outside.result _ _ _ (is_difference c.deref.result.now c.deref-2.result.now) c.first_id_outside.ensures.none c.first_id_outside.ensures.least
    ∙ (λ k. first_missing (seen_of (c.deref.ensures.value k)) (seen_of (c.deref-2.ensures.value k)))
    ∙ (λ k. first_missing (c.self.view_is k) (c.other.view_is k))
