use Rattle.reg_query.proofs.LawLemmas.{empty_where_equal}
use Rattle.reg_query.proofs.laws.diff_is_empty_where_equal.Goals as goal

pub returns : goal.returns
returns c = empty_where_equal
