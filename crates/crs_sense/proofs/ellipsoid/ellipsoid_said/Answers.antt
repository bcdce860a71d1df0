use Rattle.std.proofs.Common.{refl, ◌∙◌}
use Rattle.crs_sense.proofs.ellipsoid.ellipsoid_said.Goals as goal

pub returns : goal.returns
returns c = c.of_words.ensures ∙ rw c.source.ensures (rw c.radius_said.ensures (rw c.flattening.ensures (rw c.as_bytes.ensures refl)))
