use Rattle.std.proofs.Common.{◌↔◌, Bool, IsTrue, sym, subst, ◌∙◌}
use Rattle.memchr.specs.Find.{FindsNeedle}
use Rattle.crs_value.specs.Parts.{lower, HasPart}
use Rattle.crs_value.proofs.PartLemmas.{found_is_part}
use Rattle.crs_value.proofs.search.part.lowered_has.Goals as goal

pub returns : goal.returns
returns c =
    let text = c.args.text.now in
    let part = c.args.part.now in
    let lowered = subst (λ t. FindsNeedle t (lower part) 0 c.find.result) (c.deref.ensures.value ∙ c.in_ok-text.ensures.ok)
    (subst (λ p. FindsNeedle c.deref.result.now p 0 c.find.result) (c.deref-2.ensures.value ∙ c.in_ok-part.ensures.ok) c.find.ensures) in
    subst (λ (b : Bool). IsTrue b ↔ HasPart part text) (sym c.is_some.ensures) (found_is_part part text c.find.result lowered)
