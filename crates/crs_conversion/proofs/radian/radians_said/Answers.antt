use Rattle.std.proofs.Common.{refl, ◌∙◌}
use Rattle.crs_conversion.proofs.radian.radians_said.Goals as goal

pub returns : goal.returns
returns c = c.of_words.ensures ∙ rw c.minutes-whole.ensures (rw c.minus_said.ensures refl)
