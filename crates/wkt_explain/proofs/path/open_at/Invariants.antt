use Rattle.std.proofs.Common.{◌≡◌, length}
use Rattle.wkt_explain.specs.Path.{reads_on, trail_seen, start}
use Rattle.wkt_explain.proofs.path.open_at.Given as goal

abbrev pub invariant-loop-b : goal.invariant-loop-b
invariant-loop-b l = reads_on (trail_seen l.trail) l.rest ≡ reads_on start l.text

abbrev pub decreases-loop-b : goal.decreases-loop-b
decreases-loop-b l = length l.rest
