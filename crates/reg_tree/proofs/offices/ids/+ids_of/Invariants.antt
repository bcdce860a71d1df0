use Rattle.std.proofs.Common.{length}
use Rattle.reg_tree.proofs.offices.ids.+ids_of.Given as goal

abbrev pub decreases-ids_of : goal.decreases-ids_of
decreases-ids_of l = length l.ops.now
