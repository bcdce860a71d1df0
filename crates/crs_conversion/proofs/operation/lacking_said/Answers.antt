use Rattle.std.proofs.Common.{refl, ◌∙◌}
use Rattle.crs_conversion.proofs.operation.lacking_said.Goals as goal

pub returns : goal.returns
returns c = c.of_words.ensures ∙ rw c.parameter_name.ensures refl
