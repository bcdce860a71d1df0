use Rattle.std.proofs.Common.{refl, ◌∙◌}
use Rattle.crs_sense.proofs.axis_name.axis_name_said.Goals as goal

pub returns : goal.returns
returns c = c.of_words.ensures ∙ rw c.word.ensures (rw c.as_bytes.ensures refl)
