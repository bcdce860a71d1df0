use Rattle.std.proofs.Common.{refl, ◌∙◌}
use Rattle.crs_sense.proofs.prime.prime_said.Goals as goal

pub returns : goal.returns
returns c = c.of_words.ensures ∙ rw c.unit_named.ensures (rw c.source.ensures (rw c.longitude.ensures (rw c.as_bytes.ensures refl)))
