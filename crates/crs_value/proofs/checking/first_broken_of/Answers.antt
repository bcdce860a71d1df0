use Rattle.std.proofs.Common.{sym, ap, ◌∙◌}
use Rattle.std.specs.Option.{option_or}
use Rattle.crs_value.specs.declared.broken.Whose.TheVariants.{First, Second, Whole}
use Rattle.crs_value.proofs.Checks.{first_of, first_of_compound}
use Rattle.crs_value.proofs.checking.first_broken_of.Goals as goal

pub returns : goal.returns
returns c =
    let first = c.broken_at.ensures ∙ ap (first_of First) c.broken_of.ensures in
    let second = c.broken_at-2.ensures ∙ ap (first_of Second) c.broken_of-2.ensures in
    let whole = c.broken_at-3.ensures ∙ ap (first_of Whole) c.broken_of_compound.ensures in
    let components = c.or.ensures ∙ (λ i. option_or (first i) (second i)) in
    c.or-2.ensures ∙ ((λ i. option_or (components i) (whole i)) ∙ sym (first_of_compound _))
