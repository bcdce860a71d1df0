use Rattle.std.proofs.Common.{◌≡◌, ◌≤◌, length, ◌-◌, drop}
use Rattle.wkt_grammar.specs.Walk.{missing}
use Rattle.wkt_grammar.proofs.walk.first_missing.Given as goal

abbrev pub invariant-loop-slot : goal.invariant-loop-slot
invariant-loop-slot l = record { within : l.slot ≤ length l.row; same : missing (drop l.fn.place.slot l.row) l.fn.place.filled ≡ missing (drop l.slot l.row) l.filled }

abbrev pub decreases-loop-slot : goal.decreases-loop-slot
decreases-loop-slot l = length l.row - l.slot
