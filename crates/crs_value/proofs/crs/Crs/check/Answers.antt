use Rattle.std.proofs.Common.{Ok, sym, ap, ◌∙◌}
use Rattle.crs_value.specs.Checking.{first_broken}
use Rattle.crs_value.proofs.Checks.{conditions_hold, none_broken}
use Rattle.crs_value.proofs.Wholes.{same_crs}
use Rattle.crs_value.proofs.crs.Crs.check.Goals as goal

pub invariant_of-result : goal.invariant_of-result
invariant_of-result c = record { conditions = conditions_hold _ (sym c.in-None.ensures) }

pub returns-in-None-clause-only : goal.returns-in-None-clause-only
returns-in-None-clause-only c = λ crs same. ap Ok (same_crs _ crs (sym same))

pub returns-in-Some-clause-only : goal.returns-in-Some-clause-only
returns-in-Some-clause-only c = λ crs same. let none = c.in-Some.ensures ∙ (ap first_broken (sym same) ∙ none_broken crs.parts crs.conditions) in cc

pub returns-in-Some-clause-holds : goal.returns-in-Some-clause-holds
returns-in-Some-clause-holds c = λ holds. let none = c.in-Some.ensures ∙ none_broken _ holds in cc
