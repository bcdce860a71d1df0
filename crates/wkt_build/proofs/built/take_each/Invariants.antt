use Rattle.std.proofs.Common.{◌≤◌, length}
use Rattle.wkt_build.proofs.Steps.{TakesOn}
use Rattle.wkt_build.proofs.built.take_each.Given as goal

abbrev pub invariant-loop-alloc : goal.invariant-loop-alloc
invariant-loop-alloc g l = record { takes_on : TakesOn g.N.Built.slot_kind g.N.Built.Denotes l.fn.cursor l.cursor l.items; shorter : length l.cursor ≤ length l.fn.cursor }

abbrev pub decreases-loop-alloc : goal.decreases-loop-alloc
decreases-loop-alloc g l = length l.cursor
