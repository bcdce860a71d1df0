use Rattle.std.proofs.Common.{◌≡◌, ◌++◌, List, length, map}
use Rattle.reg_op.specs.Rows.{Row}
use Rattle.reg_report.specs.Seen.{row_seen}
use Rattle.reg_disorder.specs.Doubles.{IsDouble}
use Rattle.reg_disorder.specs.SettledTexts.{HasTexts}
use Rattle.reg_disorder.proofs.Steps.{Completes}
use Rattle.reg_disorder.proofs.settling.double.doubles_among.Given as goal

abbrev pub invariant-loop-row : goal.invariant-loop-row
invariant-loop-row l = (done : List Row) × (map row_seen l.rows ≡ done ++ map row_seen l.rest) × HasTexts l.texts done × Completes (IsDouble (map row_seen l.rows)) (map row_seen l.rows) (map row_seen l.rest) l.ids.items

abbrev pub decreases-loop-row : goal.decreases-loop-row
decreases-loop-row l = length l.rest
