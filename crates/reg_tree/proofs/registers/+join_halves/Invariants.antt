use Rattle.std.proofs.Common.{length}
use Rattle.reg_tree.proofs.registers.+join_halves.Given as goal

abbrev pub decreases-join_halves : goal.decreases-join_halves
decreases-join_halves l = length l.registers.now
