use Rattle.std.proofs.Common.{refl, ◌∙◌}
use Rattle.crs_sense.proofs.boxes.box_said.Goals as goal

pub returns : goal.returns
returns c = c.of_words.ensures ∙ rw c.box_what.ensures refl
