use Rattle.std.proofs.Common.{◌≡◌}
use Rattle.byte_place.proofs.waiting.reserve_within.Given as goal

abbrev pub invariant-loop : goal.invariant-loop
invariant-loop g l = record {
  out : l.call.out ≡ l.fn.call.out;
  beside : l.call.beside ≡ l.fn.call.beside;
}
