-- An ensemble whose accuracy is not above 0, or is more than 10 metres, or that has one member.
use Rattle.std.specs.Prelude.{ℕ, ◌==◌, Bool, not, ◌||◌, List, [], ◌∷◌, length, Option, Some, None, codes, if◌then◌else◌}
use Rattle.std.specs.Int.{is_positive}
use Rattle.std.specs.List.{concat}
use Rattle.crs_number.specs.declared.decimals.Decimal.{Decimal}
use Rattle.crs_number.specs.Canonical.{canonical}
use Rattle.crs_part.specs.declared.text.Text.{Text}
use Rattle.crs_part.specs.declared.identifiers.Named.{Named}
use Rattle.crs_part.specs.declared.datums.GeodeticFrame.{GeodeticFrame}
use Rattle.crs_part.specs.declared.datums.GeodeticFrame.TheVariants as geodetic
use Rattle.crs_part.specs.declared.datums.VerticalFrame.{VerticalFrame}
use Rattle.crs_part.specs.declared.datums.VerticalFrame.TheVariants as vertical
use Rattle.crs_part.specs.declared.crs.Single.{Single}
use Rattle.crs_part.specs.declared.crs.Single.TheVariants.{Geodetic, Projected, Vertical}
use Rattle.crs_exact.specs.Sizes.{is_beyond}

abbrev pub is_ensemble_odd : Decimal → List Named → Bool
is_ensemble_odd accuracy others = not (is_positive accuracy.coefficient) || is_beyond accuracy 10 0 || length others == 0

abbrev pub members_said : List Named → List ℕ
members_said others = if length others == 0 then codes "one member" else codes "several members"

abbrev pub ensemble_said : Text → Decimal → List Named → List ℕ
ensemble_said name v others =
    concat
    (codes "the ensemble \""
    ∷ name.bytes
    ∷ codes "\" has the accuracy "
    ∷ canonical v.coefficient v.exponent
    ∷ codes " metres and "
    ∷ members_said others
    ∷ [])

abbrev pub odd_ensemble : Text → Decimal → List Named → Option (List ℕ)
odd_ensemble name v others = if is_ensemble_odd v others then Some (ensemble_said name v others) else None

abbrev pub of_geodetic : GeodeticFrame → Option (List ℕ)
of_geodetic (geodetic.Datum datum) = None
of_geodetic (geodetic.Ensemble ensemble) = odd_ensemble ensemble.name ensemble.accuracy ensemble.members.others

abbrev pub of_vertical : VerticalFrame → Option (List ℕ)
of_vertical (vertical.Datum datum) = None
of_vertical (vertical.Ensemble ensemble) = odd_ensemble ensemble.name ensemble.accuracy ensemble.members.others

abbrev pub accuracy : Single → Option (List ℕ)
accuracy (Geodetic crs) = of_geodetic crs.datum
accuracy (Projected crs) = of_geodetic crs.base.datum
accuracy (Vertical crs) = of_vertical crs.datum
