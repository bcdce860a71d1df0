-- What holds of an outcome after a test of it.
use Rattle.std.proofs.Common.{◌≡◌, false, sym, ap}
use Rattle.std.proofs.lemmas.Bool.{false≢true}
use Rattle.std.specs.Prelude.{Ok, Err, OnOk, is_err, IsErrOf}
use Rattle.std.specs.declared.result.Result.{Result}

pub at_ok : {T E : Type 0} {P : Type 0} (r : Result T E) → is_err r ≡ false → OnOk r P → P
at_ok (Ok x) is p = p
at_ok (Err e) is p = absurd (false≢true (sym is))

abbrev error_or : {T E : Type 0} → E → Result T E → E
error_or d (Ok x) = d
error_or d (Err e) = e

abbrev again : {U E : Type 0} → E → Result U E
again e = Err e

-- whether an error is this one does not depend on the type at `Ok`
pub err_at : {T U E : Type 0} (e f : E) → IsErrOf {T = T} {E = E} (Err e) f → IsErrOf {T = U} {E = E} (Err e) f
err_at {T = T} {U = U} {E = E} e f is = ap (λ (x : E). again {U = U} x) (ap (λ (r : Result T E). error_or f r) is)
