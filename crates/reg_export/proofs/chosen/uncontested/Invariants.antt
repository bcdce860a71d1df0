use Rattle.std.proofs.Common.{◌≡◌, ◌++◌, List, length, map}
use Rattle.reg_op.specs.Rows.{Row}
use Rattle.reg_report.specs.Seen.{row_seen}
use Rattle.reg_export.specs.Kept.{row_at, option_place}
use Rattle.reg_export.proofs.ChosenLemmas.{Keeps, Best}
use Rattle.reg_export.proofs.chosen.uncontested.Given as goal

abbrev pub invariant-loop-row : goal.invariant-loop-row
invariant-loop-row l =
    (done : List Row) × (map row_seen l.rows ≡ done ++ map row_seen l.rest) × Keeps (map row_seen l.rows) (map row_seen l.rest) (map row_at l.kept.items)
    × Best (map row_seen l.rows) done (option_place l.least)

abbrev pub decreases-loop-row : goal.decreases-loop-row
decreases-loop-row l = length l.rest
