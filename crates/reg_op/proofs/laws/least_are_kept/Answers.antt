use Rattle.reg_op.proofs.KeptLemmas.{kept_enter, kept_retirement, kept_supersession}
use Rattle.reg_op.proofs.laws.least_are_kept.Goals as goal

pub returns : goal.returns
returns c = record { enters = kept_enter; retirements = kept_retirement; supersessions = kept_supersession }
