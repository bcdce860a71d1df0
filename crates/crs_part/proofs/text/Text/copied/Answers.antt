use Rattle.std.proofs.lemmas.Str.{is_utf8-from_IsUtf8}
use Rattle.std.specs.Str.{is_utf8}
use Rattle.std.proofs.Common.{◌∙◌, ap}
use Rattle.crs_part.proofs.text.Text.copied.Goals as goal

pub invariant_of-result : goal.invariant_of-result
invariant_of-result c = record { utf8 = ap is_utf8 (c.in_ok-copied.ensures ∙ c.as_bytes.ensures.value) ∙ is_utf8-from_IsUtf8 _ c.utf8.text }
