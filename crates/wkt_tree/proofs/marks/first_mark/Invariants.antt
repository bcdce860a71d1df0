use Rattle.std.proofs.Common.{length, ◌-◌, ◌≤◌}
use Rattle.wkt_tree.specs.Marks.{IsPlain}
use Rattle.wkt_tree.proofs.marks.first_mark.Given as goal

abbrev pub invariant-loop-at : goal.invariant-loop-at
invariant-loop-at l = record { plain : IsPlain l.bytes 0 l.at; within : l.at ≤ length l.bytes }

abbrev pub decreases-loop-at : goal.decreases-loop-at
decreases-loop-at l = length l.bytes - l.at

abbrev pub invariant-loop-at-2 : goal.invariant-loop-at-2
invariant-loop-at-2 l = record { plain : IsPlain l.bytes 0 l.at; within : l.at ≤ length l.bytes }

abbrev pub decreases-loop-at-2 : goal.decreases-loop-at-2
decreases-loop-at-2 l = length l.bytes - l.at
