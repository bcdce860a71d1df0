use Rattle.reg_op.proofs.ContentLemmas.{joined_comm, joined_itself, joined_nothing}
use Rattle.reg_op.proofs.JoinLemmas.{joined_assoc, joined_is_content, retired_stays}
use Rattle.reg_op.proofs.laws.join_of_contents.Goals as goal

pub returns : goal.returns
returns c = record { commutative = joined_comm; associative = joined_assoc; idempotent = joined_itself; neutral = joined_nothing; content = joined_is_content; retired = retired_stays }
