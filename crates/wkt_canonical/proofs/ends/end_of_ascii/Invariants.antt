use Rattle.std.proofs.Common.{length, ◌-◌, ◌≤◌}
use Rattle.wkt_tree.specs.Marks.{IsPlain}
use Rattle.wkt_canonical.specs.Ends.{IsLow}
use Rattle.wkt_canonical.proofs.ends.end_of_ascii.Given as goal

abbrev pub invariant-loop-at : goal.invariant-loop-at
invariant-loop-at l = record { plain : IsPlain l.bytes 0 l.at; low : IsLow l.bytes 0 l.at; within : l.at ≤ length l.bytes }

abbrev pub decreases-loop-at : goal.decreases-loop-at
decreases-loop-at l = length l.bytes - l.at
