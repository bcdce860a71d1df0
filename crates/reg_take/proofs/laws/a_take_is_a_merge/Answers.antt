use Rattle.reg_take.proofs.LawLemmas.{take_joins, take_refuses}
use Rattle.reg_take.proofs.laws.a_take_is_a_merge.Goals as goal

pub returns : goal.returns
returns c = record { joins = take_joins; refused = take_refuses }
