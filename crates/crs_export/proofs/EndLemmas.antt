-- 180 and -180 as decimals, and blanks at the ends of codes.
use Rattle.std.proofs.Common.{◌≡◌, ℕ, Bool, true, false, List, reverse, pos, ◌-ℤ◌, refl, sym, ap, ◌∙◌, inr, arith}
use Rattle.std.proofs.lemmas.Int.{ints}
use Rattle.std.proofs.lemmas.List.{reverse-reverse}
use Rattle.crs_number.specs.Numeral.{signed, IsNormalForm, IsInRange}
use Rattle.crs_export.specs.Codes.{after_blanks, trimmed}

pub normal : (n : Bool) → IsNormalForm (signed n 180) (pos 0 -ℤ pos 0) (signed n 18) (pos 1)
normal false = inr (λ e. omega (arith, e), (1, refl, refl))
normal true = inr (λ e. omega (arith, e), (1, refl, refl))

pub in_range : (n : Bool) → IsInRange (signed n 18) (pos 1)
in_range false = record { small = omega arith; low = omega (arith, ints); high = omega (arith, ints) }
in_range true = record { small = omega arith; low = omega (arith, ints); high = omega (arith, ints) }

pub trimmed_is : (code front text : List ℕ) → front ≡ after_blanks code → reverse text ≡ after_blanks (reverse front) → text ≡ trimmed code
trimmed_is code front text e f = sym (reverse-reverse text) ∙ ap reverse (f ∙ ap (λ l. after_blanks (reverse l)) e)
