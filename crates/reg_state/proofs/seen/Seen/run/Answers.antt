use Rattle.std.proofs.Common.{sym, ◌∙◌, subst}
use Rattle.reg_state.specs.Runs.{AllIds}
use Rattle.reg_state.proofs.RunLemmas.{contains-seen_of}
use Rattle.reg_state.proofs.SearchLemmas.{ids_in_runs}
use Rattle.reg_state.proofs.seen.Seen.run.Goals as goal

pub returns-clause-ids : goal.returns-clause-ids
returns-clause-ids c =
    subst AllIds c.self.view_is
    (λ i h. ids_in_runs c.self.inside.runs.items c.self.invariant.runs c.self.invariant.ids i (sym (contains-seen_of c.self.inside.runs.items i) ∙ h))
