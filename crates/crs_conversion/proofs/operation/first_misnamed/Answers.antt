use Rattle.std.proofs.Common.{sym, ◌∙◌}
use Rattle.crs_exact.specs.Said.{sentence}
use Rattle.crs_conversion.proofs.NameLemmas.{met, passed}
use Rattle.crs_conversion.proofs.operation.first_misnamed.Goals as goal

pub returns-in-Some-misnamed_parameter : goal.returns-in-Some-misnamed_parameter
returns-in-Some-misnamed_parameter c = met c.in-Some.parameter.now c.in-Some.others.now c.loop-parameter.rest.now (sentence c.in-Some-misnamed_parameter.found) c.in-Some.ensures.cases.0 c.in-Some-misnamed_parameter.ensures ∙ sym c.loop-parameter.invariant

pub loop-parameter-preserved : goal.loop-parameter-preserved
loop-parameter-preserved c = c.loop-parameter.invariant ∙ passed c.in-Some.parameter.now c.in-Some.others.now c.loop-parameter.rest.now c.in-Some.ensures.cases.0 c.in_default-misnamed_parameter.ensures
