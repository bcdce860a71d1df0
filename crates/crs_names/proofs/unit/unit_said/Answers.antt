use Rattle.std.proofs.Common.{refl, ◌∙◌}
use Rattle.crs_names.proofs.unit.unit_said.Goals as goal

pub returns : goal.returns
returns c = c.of_words.ensures ∙ rw c.source.ensures (rw c.factor.ensures (rw c.row_known-row.ensures (rw c.as_bytes.ensures (rw c.as_bytes-2.ensures refl))))
