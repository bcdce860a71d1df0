use Rattle.reg_state.proofs.ManyLemmas.{joined_all, states_all}
use Rattle.reg_state.proofs.laws.join_of_many.Goals as goal

pub returns : goal.returns
returns c = record { contents = joined_all; states = states_all }
