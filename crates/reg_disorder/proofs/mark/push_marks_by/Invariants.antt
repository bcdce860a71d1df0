use Rattle.std.proofs.Common.{map, take}
use Rattle.reg_report.specs.Seen.{row_seen}
use Rattle.reg_disorder.specs.Marks.{mark_seen, IsMarkBy, OfSome, Gains}
use Rattle.reg_disorder.proofs.mark.push_marks_by.Given as goal

abbrev pub invariant-loop-entry : goal.invariant-loop-entry
invariant-loop-entry l = Gains (OfSome (IsMarkBy (map row_seen l.rows) (row_seen l.row)) (take l.entry-index (row_seen l.row).newer)) (map mark_seen l.fn.made.items) (map mark_seen l.made.items)
