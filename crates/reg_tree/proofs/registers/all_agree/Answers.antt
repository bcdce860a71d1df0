use Rattle.reg_tree.proofs.Neighbours.{if_agreed}
use Rattle.reg_tree.proofs.registers.all_agree.Goals as goal

pub returns : goal.returns
returns c = if_agreed c.agree.result c.in_ok-ops.ops.items c.args.registers.now c.in_ok-ops.ensures c.agree.ensures
