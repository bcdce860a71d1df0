use Rattle.reg_state.proofs.CanonLemmas.{same_runs}
use Rattle.reg_state.proofs.ManyLemmas.{same_ops}
use Rattle.reg_state.proofs.laws.one_list_a_content.Goals as goal

pub returns : goal.returns
returns c = record { ops = same_ops; runs = same_runs }
