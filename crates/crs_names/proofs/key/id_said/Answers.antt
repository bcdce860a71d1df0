use Rattle.std.proofs.Common.{refl, ◌∙◌}
use Rattle.crs_names.proofs.key.id_said.Goals as goal

pub returns : goal.returns
returns c = c.of_words.ensures ∙ rw c.code_said.ensures (rw c.id_what.ensures (rw c.as_bytes.ensures refl))
