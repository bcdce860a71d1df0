use Rattle.reg_query.proofs.LawLemmas.{one_list, one_text}
use Rattle.reg_query.proofs.laws.one_diff.Goals as goal

pub returns : goal.returns
returns c = record { changes = one_list; text = one_text }
