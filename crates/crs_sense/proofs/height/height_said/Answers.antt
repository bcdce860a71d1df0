use Rattle.std.proofs.Common.{refl, ◌∙◌}
use Rattle.crs_sense.proofs.height.height_said.Goals as goal

pub returns : goal.returns
returns c = c.of_words.ensures ∙ rw c.word.ensures refl
