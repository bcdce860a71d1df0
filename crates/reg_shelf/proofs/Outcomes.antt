-- What is known of an error does not depend on the type of an `Ok`.
use Rattle.std.proofs.Common.{◌≡◌, ◌⊎◌, inl, inr, Bool, true, false, refl, sym, ap, ◌∙◌}
use Rattle.std.proofs.lemmas.Bool.{true≢false}
use Rattle.std.specs.Prelude.{Ok, Err, IsErrOf}
use Rattle.std.specs.declared.result.Result.{Result}
use Rattle.byte_shelf.specs.declared.fault.ShelfFault.{ShelfFault}
use Rattle.byte_shelf.specs.declared.fault.ShelfFault.TheVariants as fault
use Rattle.reg_shelf.specs.Keep.{IsRestoreFault}

abbrev error_or : {T E : Type 0} → E → Result T E → E
error_or d (Ok x) = d
error_or d (Err e) = e

abbrev again : {U E : Type 0} → E → Result U E
again e = Err e

pub err_at : {T U E : Type 0} (e f : E) → IsErrOf {T = T} {E = E} (Err e) f → IsErrOf {T = U} {E = E} (Err e) f
err_at {T = T} {U = U} {E = E} e f is = ap (λ (x : E). again {U = U} x) (ap (λ (r : Result T E). error_or f r) is)

pub restore_fault : {T : Type 0} (f : ShelfFault) → (IsErrOf {T = T} (Err f) fault.BadSize ⊎ IsErrOf {T = T} (Err f) fault.TooLarge → ⊥) → IsRestoreFault f
restore_fault fault.BadSize none = absurd (none (inl refl))
restore_fault fault.TooLarge none = absurd (none (inr refl))
restore_fault fault.NotShelf none = inl refl
restore_fault fault.Memory none = inr (inl refl)
restore_fault fault.DiskFailed none = inr (inr refl)

abbrev is_no_shelf : ShelfFault → Bool
is_no_shelf fault.BadSize = false
is_no_shelf fault.TooLarge = false
is_no_shelf fault.NotShelf = true
is_no_shelf fault.Memory = false
is_no_shelf fault.DiskFailed = false

-- an error of making a file that is not TooLarge is neither TooLarge nor NotShelf
pub file_fault : {T U : Type 0} (f : ShelfFault) → (f ≡ fault.TooLarge) ⊎ (f ≡ fault.Memory) → (IsErrOf {T = T} (Err f) fault.TooLarge → ⊥) → IsErrOf {T = U} (Err f) fault.TooLarge ⊎ IsErrOf {T = U} (Err f) fault.NotShelf → ⊥
file_fault f told none (inl is) = none (err_at f fault.TooLarge is)
file_fault {U = U} f (inl e) none (inr is) = absurd (true≢false (ap is_no_shelf (sym (ap (λ (r : Result U ShelfFault). error_or f r) is) ∙ e)))
file_fault {U = U} f (inr e) none (inr is) = absurd (true≢false (ap is_no_shelf (sym (ap (λ (r : Result U ShelfFault). error_or f r) is) ∙ e)))
