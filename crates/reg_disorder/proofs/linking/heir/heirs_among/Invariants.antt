use Rattle.std.proofs.Common.{◌≡◌, ◌++◌, List, length, map}
use Rattle.reg_op.specs.Rows.{Row}
use Rattle.reg_report.specs.Seen.{row_seen}
use Rattle.reg_disorder.specs.LinkHeirs.{HasTexts, HasKeys}
use Rattle.reg_disorder.proofs.linking.heir.heirs_among.Given as goal

abbrev pub invariant-loop-row : goal.invariant-loop-row
invariant-loop-row l = (later : List Row) × (map row_seen l.rows ≡ map row_seen l.rest ++ later) × HasTexts l.texts later × HasKeys l.keys later

abbrev pub decreases-loop-row : goal.decreases-loop-row
decreases-loop-row l = length l.rest
