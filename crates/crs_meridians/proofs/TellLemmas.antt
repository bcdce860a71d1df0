-- What is said of a parameter of a zone: of a central meridian, the zone's.
use Rattle.std.proofs.Common.{◌≡◌, ℕ, Bool, true, false, List, Some, None, if◌then◌else◌, ap}
use Rattle.std.proofs.lemmas.Bool.{false≢true}
use Rattle.crs_part.specs.declared.conversions.Parameter.{Parameter}
use Rattle.crs_exact.specs.Said.{parameter_said}

pub central_said : (p : Parameter) (a b said : List ℕ) (small central : Bool) → small ≡ true → central ≡ true → said ≡ parameter_said p a
    → Some said ≡ (if small then Some (parameter_said p (if central then a else b)) else None)
central_said p a b said true true s c e = ap Some e
central_said p a b said true false s c e = absurd (false≢true c)
central_said p a b said false central s c e = absurd (false≢true s)
