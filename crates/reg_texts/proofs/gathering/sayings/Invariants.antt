use Rattle.std.proofs.Common.{length, map}
use Rattle.reg_report.specs.Seen.{row_seen}
use Rattle.reg_texts.specs.Said.{said}
use Rattle.reg_texts.specs.Gathered.{AreOfRow}
use Rattle.reg_texts.proofs.EachLemmas.{Gathers}
use Rattle.reg_texts.proofs.gathering.sayings.Given as goal

abbrev pub invariant-loop-row : goal.invariant-loop-row
invariant-loop-row l = Gathers (AreOfRow (map row_seen l.rows)) (map row_seen l.rows) (map row_seen l.rest) (map said l.made.items)

abbrev pub decreases-loop-row : goal.decreases-loop-row
decreases-loop-row l = length l.rest
