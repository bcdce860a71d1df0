use Rattle.reg_shelf.proofs.Contents.{shelf_for}
use Rattle.reg_shelf.proofs.laws.each_has_a_shelf.Goals as goal

pub returns : goal.returns
returns c = shelf_for
