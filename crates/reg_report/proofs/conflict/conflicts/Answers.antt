use Rattle.std.proofs.Common.{List, map, ap, ◌∙◌, subst}
use Rattle.reg_op.specs.Rows.{Row}
use Rattle.reg_report.specs.Conflicts.{AreConflicts}
use Rattle.reg_report.specs.Contenders.{conflict_seen}
use Rattle.reg_report.specs.Seen.{row_seen}
use Rattle.reg_report.proofs.conflict.conflicts.Goals as goal

pub returns : goal.returns
returns c = subst (λ (rs : List Row). AreConflicts rs (map conflict_seen c.in_ok-made.made.items)) (ap (map row_seen) c.deref.ensures.value ∙ c.in_ok-rows.ensures.rows) c.in_ok-made.ensures
