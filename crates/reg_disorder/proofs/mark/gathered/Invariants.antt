use Rattle.std.proofs.Common.{[], map, take}
use Rattle.reg_report.specs.Seen.{row_seen}
use Rattle.reg_disorder.specs.Marks.{mark_seen, IsMarkOf, OfSome, Gains}
use Rattle.reg_disorder.proofs.mark.gathered.Given as goal

abbrev pub invariant-loop-row : goal.invariant-loop-row
invariant-loop-row l = Gains (OfSome (IsMarkOf (map row_seen l.rows)) (map row_seen (take l.row-index l.rows))) [] (map mark_seen l.made.items)
