use Rattle.std.proofs.Common.{map, take}
use Rattle.reg_report.specs.Seen.{row_seen}
use Rattle.reg_disorder.specs.Disorders.{IsWithdrawn}
use Rattle.reg_disorder.specs.Lists.{listed_seen, AreOf}
use Rattle.reg_disorder.proofs.withdrawn.withdrawn.Given as goal

abbrev pub invariant-loop-row : goal.invariant-loop-row
invariant-loop-row l = AreOf (IsWithdrawn (map row_seen l.rows)) (map row_seen (take l.row-index l.rows)) (map listed_seen l.made.items)
