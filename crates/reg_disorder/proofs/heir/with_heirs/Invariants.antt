use Rattle.std.proofs.Common.{map}
use Rattle.reg_report.specs.Seen.{row_seen}
use Rattle.reg_disorder.proofs.HeirLemmas.{Searches, left}
use Rattle.reg_disorder.proofs.heir.with_heirs.Given as goal

abbrev pub invariant-loop-id : goal.invariant-loop-id
invariant-loop-id l = Searches (map row_seen l.rows) l.todo.items l.found

abbrev pub decreases-loop-id : goal.decreases-loop-id
decreases-loop-id l = left l.links.items l.todo.items l.found
