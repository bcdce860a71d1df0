use Rattle.std.proofs.Common.{sym, subst}
use Rattle.reg_state.specs.MarkSets.{AreLeast}
use Rattle.reg_state.specs.MarkLaws.{least_least}
use Rattle.reg_state.proofs.mark_set.Marks.of.Goals as goal

pub invariant_of-result : goal.invariant_of-result
invariant_of-result c = record { sorted = c.in_ok-marks.ensures.sorted; are_least = subst AreLeast (sym c.in_ok-marks.ensures.least) (least_least _) }
