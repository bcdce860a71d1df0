use Rattle.std.proofs.Common.{List, sym, subst}
use Rattle.reg_op.specs.Rows.{Row, rows}
use Rattle.reg_op.proofs.RowLemmas.{rows-kept}
use Rattle.reg_disorder.specs.Disorders.{AreAmiss}
use Rattle.reg_disorder.proofs.laws.pruning_keeps_disorder.Goals as goal

pub returns : goal.returns
returns c = λ way s ls. (subst (λ (rs : List Row). AreAmiss way rs ls) (rows-kept s), subst (λ (rs : List Row). AreAmiss way rs ls) (sym (rows-kept s)))
