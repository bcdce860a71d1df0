use Rattle.std.proofs.Common.{sym, ◌∙◌}
use Rattle.reg_tree.proofs.Neighbours.{next_agrees, all_neighbours, one_each}
use Rattle.reg_tree.proofs.agreeing.neighbours_agree.Goals as goal

pub loop-i-preserved : goal.loop-i-preserved
loop-i-preserved c =
    next_agrees c.args.ops.now c.loop-i.i c.index-ops-i.result c.index-ops-i-in-loop-i.result c.loop-i.auto.i c.loop-i-test.true c.index-ops-i.is c.index-ops-i-in-loop-i.is
    (sym c.clashes.ensures ∙ c.if-clashes.false) c.loop-i.invariant

pub returns : goal.returns
returns c = one_each c.args.ops.now c.requires (all_neighbours c.args.ops.now c.loop-i.i c.loop-i-test.false c.loop-i.invariant)
