use Rattle.std.proofs.Common.{drop, map}
use Rattle.reg_report.specs.Seen.{row_seen}
use Rattle.reg_texts.specs.Compare.{seen_rows}
use Rattle.reg_texts.specs.Gathered.{AreOfRow}
use Rattle.reg_texts.specs.Said.{said}
use Rattle.reg_texts.proofs.EachLemmas.{Gathers}
use Rattle.reg_texts.proofs.gathering.sayings_about.Given as goal

abbrev pub invariant-loop-row : goal.invariant-loop-row
invariant-loop-row l = Gathers (AreOfRow (map row_seen l.rows)) (seen_rows l.some) (seen_rows (drop l.row-index l.some)) (map said l.made.items)
