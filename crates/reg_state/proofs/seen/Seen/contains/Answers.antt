use Rattle.std.proofs.Common.{sym, ap, ◌∙◌, subst}
use Rattle.reg_op.specs.Set as set
use Rattle.reg_state.specs.Runs.{is_in_runs, AllIds}
use Rattle.reg_state.proofs.RunLemmas.{contains-seen_of}
use Rattle.reg_state.proofs.SearchLemmas.{ids_in_runs}
use Rattle.reg_state.proofs.seen.Seen.contains.Goals as goal

pub returns-clause-value : goal.returns-clause-value
returns-clause-value c =
    c.is_covered.ensures
    ∙ ap (is_in_runs c.args.id) c.deref.ensures.value
    ∙ sym (contains-seen_of c.self.inside.runs.items c.args.id)
    ∙ ap (λ s. set.contains s c.args.id) c.self.view_is

pub returns-clause-ids : goal.returns-clause-ids
returns-clause-ids c =
    subst AllIds c.self.view_is
    (λ i h. ids_in_runs c.self.inside.runs.items c.self.invariant.runs c.self.invariant.ids i (sym (contains-seen_of c.self.inside.runs.items i) ∙ h))
