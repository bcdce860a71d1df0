use Rattle.std.proofs.Common.{Ok, sym, ap, ◌∙◌, subst}
use Rattle.reg_op.specs.Set as set
use Rattle.reg_state.specs.MarkSets.{mark_cmp, least, AreLeast}
use Rattle.reg_state.specs.MarkLaws.{least_least, merged_marks}
use Rattle.reg_state.proofs.FirstLemmas.{set-append}
use Rattle.reg_state.proofs.mark_set.MarksJoin.join.Goals as goal

pub invariant_of-result : goal.invariant_of-result
invariant_of-result c = record { sorted = c.in-Ok.ensures.sorted; are_least = subst AreLeast (sym c.in-Ok.ensures.least) (least_least _) }

pub returns-in-Ok-clause-ok : goal.returns-in-Ok-clause-ok
returns-in-Ok-clause-ok c =
    ap Ok (sym (c.in-Ok.ensures.least
    ∙ ap least (set-append c.deref.result.now c.deref-2.result.now)
    ∙ (λ k. merged_marks (set.from_list {R = mark_cmp} (c.deref.ensures.value k)) (set.from_list {R = mark_cmp} (c.deref-2.ensures.value k)))
    ∙ (λ k. merged_marks (c.self.view_is k) (c.other.view_is k))))
