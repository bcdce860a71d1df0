use Rattle.std.proofs.Common.{◌≡◌, length}
use Rattle.reg_file.specs.Files.{first_in}
use Rattle.reg_file.proofs.first.first_in.Given as goal

abbrev pub invariant-loop-op : goal.invariant-loop-op
invariant-loop-op l = first_in l.rest ≡ first_in l.ops

abbrev pub decreases-loop-op : goal.decreases-loop-op
decreases-loop-op l = length l.rest
