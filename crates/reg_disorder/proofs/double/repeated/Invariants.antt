use Rattle.std.proofs.Common.{map, take}
use Rattle.reg_report.specs.Seen.{row_seen}
use Rattle.reg_disorder.specs.Texts.{HasSome, HasSeveral}
use Rattle.reg_disorder.proofs.double.repeated.Given as goal

abbrev pub invariant-loop-row : goal.invariant-loop-row
invariant-loop-row l = HasSome (map row_seen (take l.row-index l.rows)) l.seen × HasSeveral (map row_seen (take l.row-index l.rows)) l.several
