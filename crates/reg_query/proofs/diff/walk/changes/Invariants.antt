use Rattle.std.proofs.Common.{◌+◌, map, length}
use Rattle.reg_report.specs.Seen.{row_seen}
use Rattle.reg_query.specs.ChangesSeen.{change_seen}
use Rattle.reg_query.proofs.WalkLemmas.{Walks}
use Rattle.reg_query.proofs.diff.walk.changes.Given as goal

abbrev pub invariant-loop-gone : goal.invariant-loop-gone
invariant-loop-gone l = Walks (map row_seen l.old) (map row_seen l.new) (map row_seen l.olds) (map row_seen l.news) (map change_seen l.made.items)

abbrev pub decreases-loop-gone : goal.decreases-loop-gone
decreases-loop-gone l = length l.olds + length l.news
