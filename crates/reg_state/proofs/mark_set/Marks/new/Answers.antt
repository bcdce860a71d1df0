use Rattle.std.proofs.Common.{List, sym, subst}
use Rattle.reg_state.specs.declared.mark.Mark.{Mark}
use Rattle.reg_state.specs.MarkSets.{AreMarks}
use Rattle.reg_state.specs.MarkLaws.{least-empty}
use Rattle.reg_state.proofs.FirstLemmas.{empty_sorted}
use Rattle.reg_state.proofs.mark_set.Marks.new.Goals as goal

pub invariant_of-result : goal.invariant_of-result
invariant_of-result c = subst (λ (xs : List Mark). AreMarks xs) (sym c.new.ensures.items) (record { sorted = empty_sorted; are_least = least-empty })
