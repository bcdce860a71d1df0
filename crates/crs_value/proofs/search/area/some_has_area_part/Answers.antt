use Rattle.std.proofs.Common.{refl, sym, ◌∙◌}
use Rattle.std.proofs.lemmas.Bool.{true≢false}
use Rattle.crs_value.specs.Usages.{HasAreaPart}
use Rattle.crs_value.proofs.AnyLemmas.{first_is, passed, none_is}
use Rattle.crs_value.proofs.search.area.some_has_area_part.Goals as goal

pub returns-then-has_area_part : goal.returns-then-has_area_part
returns-then-has_area_part c = (
  λ h. c.loop-usage.invariant.1 (first_is (HasAreaPart c.args.part.now) c.in-Some.usage.now c.loop-usage.rest.now c.in-Some.others.now c.in-Some.ensures.cases.0 (c.has_area_part.ensures.0 c.if-has_area_part.true)),
  λ h. refl,
)

pub loop-usage-preserved : goal.loop-usage-preserved
loop-usage-preserved c =
    let step = passed (HasAreaPart c.args.part.now) c.in-Some.usage.now c.loop-usage.rest.now c.in-Some.others.now c.in-Some.ensures.cases.0 (λ p. true≢false (sym (c.has_area_part.ensures.1 p) ∙ c.if-has_area_part.false)) in
    (λ h. step.0 (c.loop-usage.invariant.0 h), λ h. c.loop-usage.invariant.1 (step.1 h))

pub returns : goal.returns
returns c =
    let last = none_is (HasAreaPart c.args.part.now) c.loop-usage.rest.now c.in_default.ensures.cases in
    (λ h. c.loop-usage.invariant.1 (last.0 h), λ h. last.1 (c.loop-usage.invariant.0 h))
