use Rattle.std.proofs.Common.{◌≡◌, ◌++◌, List, map, length}
use Rattle.reg_op.specs.Rows.{Row}
use Rattle.reg_report.specs.Seen.{row_seen}
use Rattle.reg_keys.specs.Named.{Answers, AreEntries}
use Rattle.reg_keys.proofs.answer.entries_answering.Given as goal

abbrev pub invariant-loop-row : goal.invariant-loop-row
invariant-loop-row l = (done : List Row) × (map row_seen l.rows ≡ done ++ map row_seen l.rest) × AreEntries (Answers l.word) done l.ids.items

abbrev pub decreases-loop-row : goal.decreases-loop-row
decreases-loop-row l = length l.rest
