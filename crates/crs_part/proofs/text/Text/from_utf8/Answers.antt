use Rattle.std.proofs.Common.{ap, sym, Some}
use Rattle.crs_part.proofs.Texts.{same_text}
use Rattle.crs_part.proofs.text.Text.from_utf8.Goals as goal

pub returns-clause-only : goal.returns-clause-only
returns-clause-only c = λ t e. ap Some (same_text _ t (sym e))
