use Rattle.reg_desk.proofs.AfterRetiring.{by_settling}
use Rattle.reg_desk.proofs.AfterSettling.{kept_keys}
use Rattle.reg_desk.proofs.laws.kept_keys_are_settled.Goals as goal

pub returns : goal.returns
returns c x y replica note keeps ids made keep key is settled done there named keyed = kept_keys x y is ids (by_settling x y replica note ids made done) keeps keep key settled there named keyed
