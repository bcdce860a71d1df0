use Rattle.std.proofs.Common.{drop}
use Rattle.reg_report.specs.Seen.{row_seen}
use Rattle.reg_texts.specs.Compare.{IsPairOf, seen_rows}
use Rattle.reg_texts.proofs.EachLemmas.{Gathers}
use Rattle.reg_texts.proofs.compare.texts_against.Given as goal

abbrev pub invariant-loop-other : goal.invariant-loop-other
invariant-loop-other l = Gathers (IsPairOf (row_seen l.fn.first)) (seen_rows l.others) (seen_rows (drop l.other-index l.others)) l.text.items
