use Rattle.std.proofs.Common.{drop}
use Rattle.reg_texts.specs.Compare.{seen_rows}
use Rattle.reg_texts.specs.Given.{IsPairWith}
use Rattle.reg_texts.proofs.EachLemmas.{Gathers}
use Rattle.reg_texts.proofs.against.each_against.Given as goal

abbrev pub invariant-loop-row : goal.invariant-loop-row
invariant-loop-row l = Gathers (IsPairWith l.given) (seen_rows l.rows) (seen_rows (drop l.row-index l.rows)) l.text.items
