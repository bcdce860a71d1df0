use Rattle.std.proofs.Common.{map, take}
use Rattle.reg_report.specs.Seen.{row_seen}
use Rattle.reg_report.specs.Contenders.{AreContenders}
use Rattle.reg_report.proofs.contender.contenders_of.Given as goal

abbrev pub invariant-loop-row : goal.invariant-loop-row
invariant-loop-row l = AreContenders (map row_seen (take l.row-index l.rows)) l.made.items
