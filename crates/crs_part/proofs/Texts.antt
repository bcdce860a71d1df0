-- Texts with equal bytes are equal.
use Rattle.std.proofs.Common.{◌≡◌, ℕ, List, Bool, true, false, Result, Ok, Err, refl, sym, IsUtf8}
use Rattle.std.specs.Prelude.{is_ok, MatchResult}
use Rattle.std.proofs.Props.{props}
use Rattle.std.proofs.lemmas.Str.{is_utf8-from_IsUtf8, IsUtf8-from_is_utf8}
use Rattle.std.specs.Str.{is_utf8}
use Rattle.crs_part.specs.declared.text.Text.{Text}
use mathlib.Core.HLevel.{is_prop→PathP}

pub same_text : (x y : Text) → x.bytes ≡ y.bytes → x ≡ y
same_text x y e = λ i. record { bytes = e i; utf8 = is_prop→PathP (λ j. is_utf8 (e j) ≡ true) (λ j. hlevel props) x.utf8 y.utf8 i }

not_utf8 : (bytes : List ℕ) (b : Bool) → is_utf8 bytes ≡ b → (IsUtf8 bytes → ⊥) → false ≡ b
not_utf8 bytes true e h = absurd (h (IsUtf8-from_is_utf8 bytes e))
not_utf8 bytes false e h = refl

pub tests_utf8 : {A B : Type 0} (P : A → Type 0) (Q : B → Type 0) (r : Result A B) (bytes : List ℕ) → MatchResult r (λ s. P s × IsUtf8 bytes) (λ e. (IsUtf8 bytes → ⊥) × Q e) → is_ok r ≡ is_utf8 bytes
tests_utf8 P Q (Ok s) bytes m = sym (is_utf8-from_IsUtf8 bytes m.1)
tests_utf8 P Q (Err e) bytes m = not_utf8 bytes (is_utf8 bytes) refl m.0
