-- Reference systems with equal parts are equal.
use Rattle.std.proofs.Common.{◌≡◌}
use Rattle.std.proofs.Props.{props}
use Rattle.crs_value.specs.Checking.{HasConditions}
use Rattle.crs_value.specs.declared.crs.Crs.{Crs}
use mathlib.Core.HLevel.{is_prop→PathP}

pub same_crs : (x y : Crs) → x.parts ≡ y.parts → x ≡ y
same_crs x y e = λ i. record { parts = e i; conditions = is_prop→PathP (λ j. HasConditions (e j)) (λ j. hlevel props) x.conditions y.conditions i }
