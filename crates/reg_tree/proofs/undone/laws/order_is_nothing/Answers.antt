use Rattle.reg_tree.proofs.OrderLemmas.{order_free}
use Rattle.reg_tree.proofs.undone.laws.order_is_nothing.Goals as goal

pub returns : goal.returns
returns c = order_free
