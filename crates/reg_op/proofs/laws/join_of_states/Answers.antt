use Rattle.reg_op.proofs.ContentLemmas.{joined-state, state_is_content}
use Rattle.reg_op.proofs.laws.join_of_states.Goals as goal

pub returns : goal.returns
returns c = record { of_union = joined-state; content = state_is_content }
