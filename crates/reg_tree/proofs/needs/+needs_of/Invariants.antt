use Rattle.std.proofs.Common.{length}
use Rattle.reg_tree.proofs.needs.+needs_of.Given as goal

abbrev pub decreases-needs_of : goal.decreases-needs_of
decreases-needs_of l = length l.pieces.now
