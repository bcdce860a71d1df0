use Rattle.std.proofs.Common.{◌↔◌, ℕ, List, IsTrue, subst}
use Rattle.crs_value.specs.Usages.{IsInArea}
use Rattle.reg_query.proofs.find.query.is_area.Goals as goal

pub returns-in-Some : goal.returns-in-Some
returns-in-Some c = rw c.in-Some.is (subst (λ (t : List ℕ). IsTrue c.is_in_area.result ↔ IsInArea t c.args.crs.now) c.as_bytes.ensures.value c.is_in_area.ensures)
