use Rattle.std.proofs.Common.{◌≡◌, ◌≤◌, ◌++◌, replicate, vec_capacity}
use Rattle.crs_number.proofs.text.push_zeros.Given as goal

abbrev pub invariant-loop : goal.invariant-loop
invariant-loop l = (l.out.items ≡ l.fn.out.items ++ replicate l.counter 48) × (vec_capacity l.fn.out ≤ vec_capacity l.out)
