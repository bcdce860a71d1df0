use Rattle.std.proofs.Common.{subst}
use Rattle.std.specs.List.Sorted.{IsPermutation}
use Rattle.reg_op.specs.Set as set
use Rattle.reg_query.proofs.LogLemmas.{filter_all}
use Rattle.reg_query.proofs.laws.log_of_all.Goals as goal

pub returns : goal.returns
returns c = λ s os log. subst (λ xs. IsPermutation xs os) (filter_all (set.items s)) log.all
