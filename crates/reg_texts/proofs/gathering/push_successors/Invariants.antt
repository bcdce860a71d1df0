use Rattle.std.proofs.Common.{◌≡◌, ◌++◌, List, length, map}
use Rattle.reg_report.specs.Seen.{row_seen}
use Rattle.reg_texts.specs.Said.{Said, said}
use Rattle.reg_texts.specs.Gathered.{IsSaidBy}
use Rattle.reg_texts.proofs.EachLemmas.{Gathers}
use Rattle.reg_texts.proofs.gathering.push_successors.Given as goal

abbrev pub invariant-loop-entry : goal.invariant-loop-entry
invariant-loop-entry l =
    (mine : List Said) × (map said l.made.items ≡ map said l.fn.made.items ++ mine) × Gathers (IsSaidBy (map row_seen l.rows) (row_seen l.row)) (row_seen l.row).newer l.rest mine

abbrev pub decreases-loop-entry : goal.decreases-loop-entry
decreases-loop-entry l = length l.rest
