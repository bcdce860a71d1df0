use Rattle.std.proofs.Common.{◌≡◌, ◌++◌, length}
use Rattle.std.specs.List.{filter}
use Rattle.reg_state.specs.Merge.{lasts}
use Rattle.reg_state.proofs.merge.push_all_kept.Given as goal

abbrev pub invariant-loop-rest : goal.invariant-loop-rest
invariant-loop-rest l = l.out.items ++ filter (lasts l.marks) l.rest ≡ l.fn.out.items ++ filter (lasts l.marks) l.ops

abbrev pub decreases-loop-rest : goal.decreases-loop-rest
decreases-loop-rest l = length l.rest
