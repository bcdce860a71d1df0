use Rattle.std.proofs.Common.{ap, ◌∙◌}
use Rattle.std.specs.List.{flat_map}
use Rattle.crs_part.specs.declared.crs.CrsParts.{CrsParts}
use Rattle.crs_value.specs.declared.crs.Crs.{Crs}
use Rattle.reg_lint.specs.AnyRules.{any_listed}
use Rattle.reg_lint.specs.Screening.{broken_own}
use Rattle.reg_lint.proofs.ScreenLemmas.{not_broken}
use Rattle.reg_lint.proofs.screening.broken_by.Goals as goal

pub returns : goal.returns
returns c = λ s is rule none.
    not_broken s.crs.parts c.in_ok-broken.broken.items
    (c.in_ok-broken.ensures ∙ ap (λ (p : CrsParts). flat_map (broken_own p) any_listed) (c.parts.ensures ∙ ap (λ (v : Crs). v.parts) (c.as_ref.ensures ∙ c.in_ok-crs.ensures s is)))
    rule none
