use Rattle.std.proofs.Common.{refl, ◌∙◌}
use Rattle.crs_sense.proofs.accuracy.ensemble_said.Goals as goal

pub returns : goal.returns
returns c = c.of_words.ensures ∙ rw c.members_said.ensures (rw c.as_bytes.ensures refl)
