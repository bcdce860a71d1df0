use Rattle.std.proofs.Common.{map}
use Rattle.reg_report.specs.Seen.{row_seen}
use Rattle.reg_lint.specs.Subjects.{AreLiveKept}
use Rattle.reg_lint.proofs.live.live_of_rows.Given as goal

abbrev pub invariant-loop-row : goal.invariant-loop-row
invariant-loop-row l = AreLiveKept (map row_seen l.yielded) l.kept.items
