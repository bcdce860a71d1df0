use Rattle.std.proofs.Common.{◌≡◌, ◌++◌, length, map}
use Rattle.reg_query.specs.Log.{subject}
use Rattle.reg_query.proofs.log.asked.subjects.Given as goal

abbrev pub invariant-loop-op : goal.invariant-loop-op
invariant-loop-op l = map subject l.ops ≡ l.ids.items ++ map subject l.rest

abbrev pub decreases-loop-op : goal.decreases-loop-op
decreases-loop-op l = length l.rest
