use Rattle.std.proofs.Common.{List, sym, subst}
use Rattle.reg_op.specs.Rows.{Row, rows}
use Rattle.reg_op.proofs.RowLemmas.{rows-kept}
use Rattle.reg_report.specs.Conflicts.{AreConflicts}
use Rattle.reg_report.proofs.OneLemmas.{one_list}
use Rattle.reg_report.proofs.laws.conflicts_of_kept.Goals as goal

pub returns : goal.returns
returns c = record {
  conflicts = λ s cs. (subst (λ (rs : List Row). AreConflicts rs cs) (rows-kept s), subst (λ (rs : List Row). AreConflicts rs cs) (sym (rows-kept s)));
  one = λ s. one_list (rows s);
}
