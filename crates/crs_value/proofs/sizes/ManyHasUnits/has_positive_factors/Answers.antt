use Rattle.std.proofs.Common.{sym, ap, ◌∙◌}
use Rattle.std.specs.List.{list_all}
use Rattle.crs_value.specs.Conditions.{has_positive_factor}
use Rattle.crs_value.proofs.Lists.{list_all-flat_map}
use Rattle.crs_value.proofs.sizes.ManyHasUnits.has_positive_factors.Goals as goal

pub returns : goal.returns
returns g c =
    let units = g.T.HasUnits.units in
    c.have_positive_factors.ensures
    ∙ ap (list_all (λ part. list_all has_positive_factor (units part))) c.as_slice.ensures
    ∙ sym (list_all-flat_map has_positive_factor units c.args.self.now)
