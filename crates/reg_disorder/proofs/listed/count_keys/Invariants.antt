use Rattle.std.proofs.Common.{◌≡◌, ◌≤◌, ◌+◌, map, length}
use Rattle.std.specs.List.{dedup_from, dedup}
use Rattle.std.specs.Ordering.{is_eq}
use Rattle.reg_report.specs.Conflicts.{key_cmp}
use Rattle.reg_disorder.specs.Lists.{key_seen}
use Rattle.reg_disorder.proofs.listed.count_keys.Given as goal

abbrev pub invariant-loop-next : goal.invariant-loop-next
invariant-loop-next l = (l.count + length (dedup_from (λ a b. is_eq (key_cmp a b)) (key_seen l.last) (map key_seen l.rest)) ≡ length (dedup (λ a b. is_eq (key_cmp a b)) (map key_seen l.listed)) + 1)
    × (l.count + length l.rest ≤ length l.listed)

abbrev pub decreases-loop-next : goal.decreases-loop-next
decreases-loop-next l = length l.rest
