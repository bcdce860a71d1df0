use Rattle.std.proofs.Common.{sym, ap, ◌∙◌}
use Rattle.crs_part.specs.declared.crs.CrsParts.TheVariants as parts
use Rattle.crs_value.specs.Checking.{first_broken}
use Rattle.crs_value.specs.declared.broken.Whose.TheVariants.{Whole}
use Rattle.crs_value.proofs.Checks.{first_of, first_of_single}
use Rattle.crs_value.proofs.checking.first_broken.Goals as goal

pub returns-in-Single : goal.returns-in-Single
returns-in-Single c = c.broken_at.ensures ∙ (ap (first_of Whole) c.broken_of.ensures ∙ (sym (first_of_single _) ∙ ap first_broken (sym c.in-Single.is)))

pub returns-in-Compound : goal.returns-in-Compound
returns-in-Compound c =
    c.first_broken_of.ensures ∙ (ap (λ crs. first_broken (parts.Compound crs)) c.get.ensures ∙ ap first_broken (sym c.in-Compound.is))
