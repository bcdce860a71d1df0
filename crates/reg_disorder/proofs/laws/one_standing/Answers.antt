use Rattle.std.proofs.Common.{List, sym, subst}
use Rattle.reg_op.specs.Rows.{Row, rows}
use Rattle.reg_op.proofs.RowLemmas.{rows-kept}
use Rattle.reg_disorder.specs.Standings.{IsStanding}
use Rattle.reg_disorder.proofs.StandingLemmas.{one_standing}
use Rattle.reg_disorder.proofs.laws.one_standing.Goals as goal

pub returns-clause-one : goal.returns-clause-one
returns-clause-one c = λ rs k s t a b. one_standing rs k s t a b

pub returns-clause-pruned : goal.returns-clause-pruned
returns-clause-pruned c = λ x k s. (subst (λ (rs : List Row). IsStanding s rs k) (rows-kept x), subst (λ (rs : List Row). IsStanding s rs k) (sym (rows-kept x)))
