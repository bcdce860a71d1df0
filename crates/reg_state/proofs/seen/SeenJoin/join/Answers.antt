use Rattle.std.proofs.Common.{◌∙◌, ◌||◌, sym, ap, Ok}
use Rattle.reg_op.specs.Set as set
use Rattle.reg_state.specs.Runs.{is_in_runs}
use Rattle.reg_state.proofs.RunLemmas.{seen_of-joined}
use Rattle.reg_state.proofs.seen.SeenJoin.join.Goals as goal

pub returns-in-Ok-clause-ok : goal.returns-in-Ok-clause-ok
returns-in-Ok-clause-ok c =
    ap Ok (sym (seen_of-joined c.in-Ok.runs.items c.self.inside.runs.items c.other.inside.runs.items
    (λ i. c.in-Ok.ensures.covered i ∙ (λ k. is_in_runs i (c.deref.ensures.value k) || is_in_runs i (c.deref-2.ensures.value k)))
    ∙ (λ k. set.union (c.self.view_is k) (c.other.view_is k))))
