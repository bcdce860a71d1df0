use Rattle.wkt_tree.proofs.Stacks.{full_open}
use Rattle.wkt_tree.proofs.stack.Stack.is_full.Goals as goal

pub returns : goal.returns
returns c = full_open c.self.inside.depth 16 c.self.inside.rounds c.args.self.now c.self.view_is c.self.invariant.0
