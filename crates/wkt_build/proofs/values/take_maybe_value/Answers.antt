use Rattle.std.proofs.Common.{refl}
use Rattle.wkt_build.proofs.values.take_maybe_value.Goals as goal

pub returns-clause-some : goal.returns-clause-some
returns-clause-some c = λ h x first behind rest f e n. let b = c.in_ok-value.ensures.builds x first behind rest f e n in (c.in_ok-value.value, refl, b.0, b.1)
