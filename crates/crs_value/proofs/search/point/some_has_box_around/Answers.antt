use Rattle.std.proofs.Common.{refl, sym, ◌∙◌}
use Rattle.std.proofs.lemmas.Bool.{true≢false}
use Rattle.crs_value.specs.Usages.{HasBoxAround}
use Rattle.crs_value.proofs.AnyLemmas.{first_is, passed, none_is}
use Rattle.crs_value.proofs.search.point.some_has_box_around.Goals as goal

pub returns-then-has_box_around : goal.returns-then-has_box_around
returns-then-has_box_around c = (
  λ h. c.loop-usage.invariant.1 (first_is (HasBoxAround c.args.point.now) c.in-Some.usage.now c.loop-usage.rest.now c.in-Some.others.now c.in-Some.ensures.cases.0 (c.has_box_around.ensures.0 c.if-has_box_around.true)),
  λ h. refl,
)

pub loop-usage-preserved : goal.loop-usage-preserved
loop-usage-preserved c =
    let step = passed (HasBoxAround c.args.point.now) c.in-Some.usage.now c.loop-usage.rest.now c.in-Some.others.now c.in-Some.ensures.cases.0 (λ p. true≢false (sym (c.has_box_around.ensures.1 p) ∙ c.if-has_box_around.false)) in
    (λ h. step.0 (c.loop-usage.invariant.0 h), λ h. c.loop-usage.invariant.1 (step.1 h))

pub returns : goal.returns
returns c =
    let last = none_is (HasBoxAround c.args.point.now) c.loop-usage.rest.now c.in_default.ensures.cases in
    (λ h. c.loop-usage.invariant.1 (last.0 h), λ h. last.1 (c.loop-usage.invariant.0 h))
