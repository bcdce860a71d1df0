use Rattle.reg_commands.proofs.MergeLemmas
use Rattle.reg_commands.proofs.laws.merge_of_many.Goals as goal

pub returns : goal.returns
returns c = record { order = MergeLemmas.order; states = MergeLemmas.states }
