use Rattle.std.proofs.Common.{map, take}
use Rattle.reg_report.specs.Seen.{row_seen}
use Rattle.reg_disorder.specs.Keys.{HasLiveKeys}
use Rattle.reg_disorder.proofs.withdrawn.live_keys.Given as goal

abbrev pub invariant-loop-row : goal.invariant-loop-row
invariant-loop-row l = HasLiveKeys (map row_seen (take l.row-index l.rows)) l.live
