use Rattle.std.proofs.Common.{ap, ◌∙◌}
use Rattle.crs_said.specs.References.{system_names}
use Rattle.crs_value.specs.declared.crs.Crs.{Crs}
use Rattle.reg_lint.proofs.voices.names_by.Goals as goal

pub returns : goal.returns
returns c = λ s is. c.in_ok-names.ensures ∙ ap system_names (c.parts.ensures ∙ ap (λ (v : Crs). v.parts) (c.as_ref.ensures ∙ c.in_ok-crs.ensures s is))
