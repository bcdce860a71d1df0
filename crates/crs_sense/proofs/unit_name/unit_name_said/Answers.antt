use Rattle.std.proofs.Common.{refl, ◌∙◌}
use Rattle.crs_sense.proofs.unit_name.unit_name_said.Goals as goal

pub returns : goal.returns
returns c = c.of_words.ensures ∙ rw c.unit_said.ensures refl
