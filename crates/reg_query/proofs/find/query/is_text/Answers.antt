use Rattle.std.proofs.Common.{◌↔◌, ℕ, List, IsTrue, subst}
use Rattle.reg_query.specs.Texts.{IsInTexts}
use Rattle.reg_query.proofs.find.query.is_text.Goals as goal

pub returns-in-Some : goal.returns-in-Some
returns-in-Some c = rw c.in-Some.is (subst (λ (t : List ℕ). IsTrue c.is_in_texts.result ↔ IsInTexts t c.args.crs.now) c.as_bytes.ensures.value c.is_in_texts.ensures)
