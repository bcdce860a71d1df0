use Rattle.std.proofs.Common.{length, map}
use Rattle.reg_report.specs.Seen.{row_seen}
use Rattle.reg_texts.specs.Compare.{IsChosen, seen_rows}
use Rattle.reg_texts.proofs.EachLemmas.{Gathers}
use Rattle.reg_texts.proofs.choice.chosen.Given as goal

abbrev pub invariant-loop-row : goal.invariant-loop-row
invariant-loop-row g l = Gathers (IsChosen (g.C.RowFilter.wants l.choice)) (map row_seen l.rows) (map row_seen l.rest) (seen_rows l.found.items)

abbrev pub decreases-loop-row : goal.decreases-loop-row
decreases-loop-row g l = length l.rest
