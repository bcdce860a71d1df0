use Rattle.std.proofs.Common.{sym, ◌∙◌}
use Rattle.std.specs.Cmp.Lexicographic.{same_text as same_bytes}
use Rattle.crs_part.proofs.Texts.{same_text}
use Rattle.crs_part.proofs.text.TextSame.same.Goals as goal

pub returns-clause-yes : goal.returns-clause-yes
returns-clause-yes c = λ told. same_text _ _ (sym c.as_bytes.ensures ∙ same_bytes _ _ (sym told ∙ c.eq.ensures) ∙ c.as_bytes-2.ensures)
