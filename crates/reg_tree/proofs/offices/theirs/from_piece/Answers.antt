use Rattle.reg_tree.proofs.OfficeLemmas.{all_listed}
use Rattle.reg_tree.proofs.offices.theirs.from_piece.Goals as goal

pub returns : goal.returns
returns c = all_listed c.args.offices.now c.args.piece.now.ops c.ops.result.now c.register_of.result c.ops.ensures.items c.register_of.ensures
