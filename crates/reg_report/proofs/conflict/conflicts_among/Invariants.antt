use Rattle.std.proofs.Common.{map, length}
use Rattle.reg_report.specs.Contenders.{conflict_seen}
use Rattle.reg_report.proofs.ConflictLemmas.{Far, Completes}
use Rattle.reg_report.proofs.conflict.conflicts_among.Given as goal

abbrev pub invariant-loop-first : goal.invariant-loop-first
invariant-loop-first l = Far l.rest × Completes l.contenders l.rest (map conflict_seen l.made.items)

abbrev pub decreases-loop-first : goal.decreases-loop-first
decreases-loop-first l = length l.rest
