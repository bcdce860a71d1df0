use Rattle.reg_desk.proofs.AfterRetiring.{by_settling}
use Rattle.reg_desk.proofs.AfterSettling.{one_entry}
use Rattle.reg_desk.proofs.laws.texts_stand_once.Goals as goal

pub returns : goal.returns
returns c x y replica note ids made one other is doubles done there other_there stands other_stands same = one_entry x y is ids (by_settling x y replica note ids made done) doubles one other there other_there stands other_stands same
