-- A text that spells a decimal is ASCII.
use Rattle.std.proofs.Common.{◌≡◌, ℕ, Bool, List, [], ◌∷◌, ℤ, true, sym, subst, ⊎_elim, arith}
use Rattle.std.specs.Str.{IsAscii, is_utf8}
use Rattle.std.proofs.lemmas.Fmt.{IsAscii-from_digits}
use Rattle.std.proofs.lemmas.Str.{IsUtf8-from_ascii, is_utf8-from_IsUtf8, IsAscii-append}
use Rattle.std.proofs.lemmas.Str.Ascii.{IsAscii-nil, IsAscii-cons}
use Rattle.crs_number.specs.Numeral.{IsSign, IsFraction, IsWholeNumber, IsPower, Spells}

ascii_sign : (text : List ℕ) (negative : Bool) → IsSign text negative → IsAscii text
ascii_sign [] negative h = IsAscii-nil
ascii_sign (c ∷ []) negative h = IsAscii-cons c [] (⊎_elim (λ plus. let e = plus.0 in omega arith) (λ minus. let e = minus.0 in omega arith) h) IsAscii-nil
ascii_sign (c ∷ d ∷ text) negative h = absurd h

ascii_fraction : (text digits : List ℕ) → IsFraction text digits → IsAscii text
ascii_fraction [] digits h = IsAscii-nil
ascii_fraction (c ∷ text) digits h = let e = h.0 in IsAscii-cons c text (omega arith) (subst IsAscii (sym h.1) (IsAscii-from_digits digits h.2))

ascii_whole : (text : List ℕ) (negative : Bool) (digits : List ℕ) → IsWholeNumber text negative digits → IsAscii text
ascii_whole text negative digits w = subst IsAscii (sym w.is_text) (IsAscii-append w.sign digits (ascii_sign w.sign negative w.is_sign) (IsAscii-from_digits digits w.is_digits.1))

ascii_power : (text : List ℕ) (negative : Bool) (digits : List ℕ) → IsPower text negative digits → IsAscii text
ascii_power [] negative digits h = IsAscii-nil
ascii_power (c ∷ text) negative digits h = IsAscii-cons c text (⊎_elim (λ e. omega arith) (λ e. omega arith) h.0) (ascii_whole text negative digits h.1)

ascii_spelled : (text : List ℕ) (c e : ℤ) → Spells text c e → IsAscii text
ascii_spelled text c e s =
    let f = s.form in
    subst IsAscii (sym f.is_text) (IsAscii-append f.sign _ (ascii_sign f.sign _ f.is_sign) (IsAscii-append s.parts.whole _ (IsAscii-from_digits _ f.is_whole) (IsAscii-append f.point f.power (ascii_fraction f.point _ f.is_point) (ascii_power f.power _ _ f.is_power))))

pub spelled_is_utf8 : (text : List ℕ) (c e : ℤ) → Spells text c e → is_utf8 text ≡ true
spelled_is_utf8 text c e s = is_utf8-from_IsUtf8 text (IsUtf8-from_ascii text (ascii_spelled text c e s))
