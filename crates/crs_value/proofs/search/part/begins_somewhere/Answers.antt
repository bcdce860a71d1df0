use Rattle.std.proofs.Common.{refl, sym, ◌∙◌}
use Rattle.std.proofs.lemmas.Bool.{true≢false}
use Rattle.crs_value.proofs.PartLemmas.{first_has, passed, ends}
use Rattle.crs_value.proofs.search.part.begins_somewhere.Goals as goal

pub returns-then-begins_with : goal.returns-then-begins_with
returns-then-begins_with c = (λ h. c.loop-others.invariant.1 (first_has c.args.part.now c.loop-others.rest.now (c.begins_with.ensures.0 c.if-begins_with.true)), λ h. refl)

pub loop-others-preserved : goal.loop-others-preserved
loop-others-preserved c = let step = passed c.args.part.now c.loop-others.rest.now c.in-Some.others.now c.in-Some.field-0-0.now c.in-Some.ensures.cases.0 (λ b. true≢false (sym (c.begins_with.ensures.1 b) ∙ c.if-begins_with.false)) in
    (λ h. step.0 (c.loop-others.invariant.0 h), λ h. c.loop-others.invariant.1 (step.1 h))

pub returns : goal.returns
returns c = let last = ends c.args.part.now c.loop-others.rest.now c.is_empty.result c.in_default.ensures.cases c.is_empty.ensures in
    (λ h. c.loop-others.invariant.1 (last.0 h), λ h. last.1 (c.loop-others.invariant.0 h))
