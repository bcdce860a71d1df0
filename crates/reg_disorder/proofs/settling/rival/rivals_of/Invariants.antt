use Rattle.std.proofs.Common.{length, map}
use Rattle.reg_report.specs.Seen.{row_seen}
use Rattle.reg_disorder.proofs.Candidates.{Gathers}
use Rattle.reg_disorder.proofs.settling.rival.rivals_of.Given as goal

abbrev pub invariant-loop-row : goal.invariant-loop-row
invariant-loop-row l = Gathers l.keeps (map row_seen l.rows) (map row_seen l.rest) l.made.items

abbrev pub decreases-loop-row : goal.decreases-loop-row
decreases-loop-row l = length l.rest
