use Rattle.std.proofs.Common.{◌-◌, length}
use Rattle.wkt_write.proofs.Keeping.{Stands}
use Rattle.wkt_write.proofs.condensing.walk.go_over.Given as goal

abbrev pub invariant-loop-at : goal.invariant-loop-at
invariant-loop-at l = Stands l.text l.condensed.items l.from l.at l.shut

abbrev pub decreases-loop-at : goal.decreases-loop-at
decreases-loop-at l = length l.initial.text - l.at
