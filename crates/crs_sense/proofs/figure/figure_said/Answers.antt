use Rattle.std.proofs.Common.{refl, ◌∙◌}
use Rattle.crs_sense.proofs.figure.figure_said.Goals as goal

pub returns : goal.returns
returns c = c.of_words.ensures ∙ rw c.figure_what.ensures (rw c.as_bytes.ensures refl)
