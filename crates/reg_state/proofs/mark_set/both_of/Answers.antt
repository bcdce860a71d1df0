use Rattle.std.proofs.Common.{List, None, sym, ap, ◌∙◌, subst}
use Rattle.std.specs.List.Sorted.{IsSorted}
use Rattle.std.proofs.lemmas.Result.{IfOk-weaker}
use Rattle.reg_op.specs.Set as set
use Rattle.reg_state.specs.declared.mark.Mark.{Mark}
use Rattle.reg_state.specs.MarkSets.{mark_cmp, firsts, least}
use Rattle.reg_state.proofs.FirstLemmas.{firsts_least, firsts_sorted, same_has}
use Rattle.reg_state.proofs.mark_set.both_of.Goals as goal

pub returns-clause-sorted : goal.returns-clause-sorted
returns-clause-sorted c =
    IfOk-weaker c.firsts_of.result _ _
    (λ made e. subst (λ (xs : List Mark). IsSorted mark_cmp xs) (sym (e ∙ ap (firsts None) c.deref.ensures.value)) (firsts_sorted c.in_ok-merged.merged.items c.in_ok-merged.ensures.sorted))
    c.firsts_of.ensures

pub returns-clause-least : goal.returns-clause-least
returns-clause-least c =
    let merged = c.in_ok-merged.merged.items in
    IfOk-weaker c.firsts_of.result _ _
    (λ made e. ap (λ (xs : List Mark). set.from_list {R = mark_cmp} xs) (e ∙ ap (firsts None) c.deref.ensures.value)
    ∙ firsts_least merged c.in_ok-merged.ensures.sorted
    ∙ ap least (same_has merged _ c.in_ok-merged.ensures.covered))
    c.firsts_of.ensures
