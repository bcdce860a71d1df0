use Rattle.std.proofs.Common.{refl, ◌∙◌}
use Rattle.crs_conversion.proofs.operation.misnamed_said.Goals as goal

pub returns : goal.returns
returns c = c.of_words.ensures ∙ rw c.first_name.ensures refl
