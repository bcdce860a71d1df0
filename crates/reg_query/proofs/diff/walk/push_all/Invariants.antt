use Rattle.std.proofs.Common.{◌≡◌, ◌++◌, map, take}
use Rattle.reg_report.specs.Seen.{row_seen}
use Rattle.reg_query.specs.Changes.{signed}
use Rattle.reg_query.specs.ChangesSeen.{change_seen}
use Rattle.reg_query.proofs.diff.walk.push_all.Given as goal

abbrev pub invariant-loop-row : goal.invariant-loop-row
invariant-loop-row l = map change_seen l.made.items ≡ map change_seen l.initial.made.items ++ map (λ r. signed l.sign (row_seen r)) (take l.row-index l.rows)
