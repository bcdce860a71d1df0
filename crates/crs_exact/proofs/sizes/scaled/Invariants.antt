use Rattle.std.proofs.Common.{◌≡◌, ◌*◌, ◌^◌, ◌<◌}
use Rattle.crs_exact.proofs.sizes.scaled.Given as goal

abbrev pub invariant-loop : goal.invariant-loop
invariant-loop l = (l.scaled ≡ l.number * 10 ^ l.counter) × (l.scaled < 10 ^ 34)
