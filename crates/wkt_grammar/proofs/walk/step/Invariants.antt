use Rattle.std.proofs.Common.{◌≡◌, ◌≤◌, length, ◌-◌, drop}
use Rattle.wkt_grammar.specs.Walk.{next}
use Rattle.wkt_grammar.proofs.walk.step.Given as goal

abbrev pub invariant-loop-slot : goal.invariant-loop-slot
invariant-loop-slot l = record { within : l.slot ≤ length l.row; same : next (drop l.fn.place.slot l.row) l.fn.place.filled l.argument ≡ next (drop l.slot l.row) l.filled l.argument }

abbrev pub decreases-loop-slot : goal.decreases-loop-slot
decreases-loop-slot l = length l.row - l.slot
