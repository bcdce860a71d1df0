use Rattle.std.proofs.Common.{◌≡◌, find, length, not}
use Rattle.std.specs.List.{list_any}
use Rattle.reg_op.specs.Ids.{Id, is_same}
use Rattle.reg_query.proofs.log.asked.first_outside.Given as goal

abbrev pub invariant-loop-entry : goal.invariant-loop-entry
invariant-loop-entry l = find (λ (e : Id). not (list_any (is_same e) l.ids)) l.entries ≡ find (λ (e : Id). not (list_any (is_same e) l.ids)) l.rest

abbrev pub decreases-loop-entry : goal.decreases-loop-entry
decreases-loop-entry l = length l.rest
