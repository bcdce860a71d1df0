use Rattle.std.proofs.Common.{map, take}
use Rattle.reg_report.specs.Seen.{row_seen}
use Rattle.reg_disorder.specs.Heirs.{AreValid}
use Rattle.reg_disorder.proofs.heir.valid_of.Given as goal

abbrev pub invariant-loop-row : goal.invariant-loop-row
invariant-loop-row l = AreValid (map row_seen (take l.row-index l.rows)) l.made.items
