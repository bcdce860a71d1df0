-- Names where case does not count.
use Rattle.std.proofs.Common.{◌≡◌, ℕ, ◌+◌, ◌*◌, ◌/◌, ◌%◌, ◌<◌, ◌-◌, nat_lt, Bool, true, false, not, List, [], ◌∷◌, ◌++◌, All, map, codes, if◌then◌else◌, refl, sym, ap, ◌∙◌, arith}
use Rattle.std.specs.Char.{to_ascii_lowercase}
use Rattle.std.specs.List.{flat_map}
use Rattle.std.proofs.lemmas.Bool.Decides.{nat_tests}
use Rattle.std.proofs.lemmas.List.{map-append}
use Rattle.std.proofs.lemmas.List.Elements.{recursion_from_All}
use Rattle.std.proofs.lemmas.Nat.{div-add-mod'}
use Rattle.std.proofs.lemmas.Str.Ascii.{lowercase-lowercase}
use Rattle.reg_export.specs.declared.naming.Capitals.{Capitals}
use Rattle.reg_export.specs.declared.naming.Capitals.TheVariants as capitals
use Rattle.reg_export.specs.KeyNames.{is_plain, is_capital, stays, hex_digit, named_byte, named, name_with, file_name, read_after, rest_after, without_end}
use Rattle.reg_export.specs.KeyFiles.{lower}
use Rattle.reg_export.proofs.NameLemmas.{IsRead, picked, plain_of, is_other, first_part, second_part, each_same}

-- ---- one byte

small : (b : ℕ) → is_capital b ≡ false → to_ascii_lowercase b ≡ b
small b e = grind (arith, nat_tests)

not_capital : (b : ℕ) → is_plain b ≡ false → is_capital b ≡ false
not_capital b e = grind (arith, nat_tests)

plain_below : (b : ℕ) → is_plain b ≡ true → is_plain (to_ascii_lowercase b) ≡ true
plain_below b e = grind (arith, nat_tests)

-- the value of a digit in small letters
abbrev low_value : ℕ → ℕ
low_value d = if nat_lt d 65 then d - 48 else d - 87

digit_below : (n : ℕ) (t : Bool) → n < 16 → nat_lt n 10 ≡ t → low_value (to_ascii_lowercase (if t then 48 + n else 55 + n)) ≡ n
digit_below n true below e = grind (arith, nat_tests)
digit_below n false below e = grind (arith, nat_tests)

low_read : (b : ℕ) → b < 256 → low_value (to_ascii_lowercase (hex_digit (b / 16))) * 16 + low_value (to_ascii_lowercase (hex_digit (b % 16))) ≡ b
low_read b below =
    let high : b / 16 < 16 = omega arith in
    let low : b % 16 < 16 = omega arith in
    ap (λ d. d * 16 + low_value (to_ascii_lowercase (hex_digit (b % 16)))) (digit_below (b / 16) _ high refl)
    ∙ ap (λ e. b / 16 * 16 + e) (digit_below (b % 16) _ low refl) ∙ div-add-mod' b 16

-- what is read of a byte where case does not count
abbrev pub kept : Capitals → ℕ → ℕ
kept capitals.Stay b = to_ascii_lowercase b
kept capitals.Escaped b = b

low_kept : (p : Capitals) (b : ℕ) → to_ascii_lowercase (kept p b) ≡ to_ascii_lowercase b
low_kept capitals.Stay b = lowercase-lowercase b
low_kept capitals.Escaped b = refl

stays_so : (p : Capitals) (b : ℕ) → stays p b ≡ true → to_ascii_lowercase b ≡ kept p b
stays_so capitals.Stay b e = refl
stays_so capitals.Escaped b e = grind (arith, nat_tests)

goes_so : (p : Capitals) (b : ℕ) → stays p b ≡ false → b ≡ kept p b
goes_so capitals.Stay b e = sym (small b (not_capital b e))
goes_so capitals.Escaped b e = refl

low_picked : (p : Capitals) (b : ℕ) (t : Bool) → b < 256 → stays p b ≡ t → IsRead low_value (lower (picked b t)) (kept p b)
low_picked p b true below e =
    let plain = plain_below b (plain_of p b e) in
    (stays_so p b e, is_other 95 (to_ascii_lowercase b) refl plain, is_other 37 (to_ascii_lowercase b) refl plain)
low_picked p b false below e = (low_read b below ∙ goes_so p b e, refl, refl)

abbrev low_byte : Capitals → ℕ → List ℕ
low_byte p b = lower (named_byte p b)

low_one : (p : Capitals) (b : ℕ) → b < 256 → IsRead low_value (low_byte p b) (kept p b)
low_one p b below = low_picked p b (stays p b) below refl

-- ---- whole names

low_text : (p : Capitals) (text : List ℕ) → lower (named p text) ≡ flat_map (low_byte p) text
low_text p [] = refl
low_text p (b ∷ text) = map-append to_ascii_lowercase (named_byte p b) (named p text) ∙ ap (λ t. low_byte p b ++ t) (low_text p text)

low_name : (p : Capitals) (a c : List ℕ) → lower (name_with p a c) ≡ flat_map (low_byte p) a ++ (95 ∷ (flat_map (low_byte p) c ++ codes ".wkt"))
low_name p a c =
    map-append to_ascii_lowercase (named p a) (95 ∷ (named p c ++ codes ".wkt"))
    ∙ ap (λ t. t ++ (95 ∷ lower (named p c ++ codes ".wkt"))) (low_text p a)
    ∙ ap (λ t. flat_map (low_byte p) a ++ (95 ∷ t)) (map-append to_ascii_lowercase (named p c) (codes ".wkt") ∙ ap (λ t. t ++ codes ".wkt") (low_text p c))

abbrev pub Bytes : List ℕ → Type 0
Bytes text = All (λ b. b < 256) text

module _ (p q : Capitals) (a c b d : List ℕ) (of_a : Bytes a) (of_c : Bytes c) (of_b : Bytes b) (of_d : Bytes d) (e : lower (name_with p a c) ≡ lower (name_with q b d)) where
  same : flat_map (low_byte p) a ++ (95 ∷ (flat_map (low_byte p) c ++ codes ".wkt")) ≡ flat_map (low_byte q) b ++ (95 ∷ (flat_map (low_byte q) d ++ codes ".wkt"))
  same = sym (low_name p a c) ∙ e ∙ low_name q b d

  first : map (kept p) a ≡ map (kept q) b
  first =
      sym (first_part low_value (low_byte p) (kept p) (λ n. n < 256) (low_one p) a c (recursion_from_All (λ n. n < 256) a of_a))
      ∙ ap (read_after low_value 0) same ∙ first_part low_value (low_byte q) (kept q) (λ n. n < 256) (low_one q) b d (recursion_from_All (λ n. n < 256) b of_b)

  second : map (kept p) c ≡ map (kept q) d
  second =
      sym (second_part low_value (low_byte p) (kept p) (λ n. n < 256) (low_one p) a c (recursion_from_All (λ n. n < 256) a of_a) (recursion_from_All (λ n. n < 256) c of_c))
      ∙ ap (λ n. without_end (read_after low_value 0 (rest_after 0 n))) same
      ∙ second_part low_value (low_byte q) (kept q) (λ n. n < 256) (low_one q) b d (recursion_from_All (λ n. n < 256) b of_b) (recursion_from_All (λ n. n < 256) d of_d)

low_all : (p : Capitals) (text : List ℕ) → lower (map (kept p) text) ≡ lower text
low_all p [] = refl
low_all p (b ∷ text) = λ j. low_kept p b j ∷ low_all p text j

-- names whose capitals are escaped are one name where case does not count only if they are one key's
pub one_key : (a c b d : List ℕ) → Bytes a → Bytes c → Bytes b → Bytes d → lower (name_with capitals.Escaped a c) ≡ lower (name_with capitals.Escaped b d) → (a ≡ b) × (c ≡ d)
one_key a c b d of_a of_c of_b of_d e = (
  sym (each_same a) ∙ first capitals.Escaped capitals.Escaped a c b d of_a of_c of_b of_d e ∙ each_same b,
  sym (each_same c) ∙ second capitals.Escaped capitals.Escaped a c b d of_a of_c of_b of_d e ∙ each_same d,
)

-- ---- the name depends, where case does not count, on the small letters of the key alone

plain_picked : (b : ℕ) (t : Bool) → is_capital b ≡ t → low_byte capitals.Stay b ≡ low_byte capitals.Stay (to_ascii_lowercase b)
plain_picked b true e =
    let own : is_plain b ≡ true = grind (arith, nat_tests) in
    let low : is_plain (to_ascii_lowercase b) ≡ true = plain_below b own in
    rw (own, low) (ap (λ n. n ∷ []) (sym (lowercase-lowercase b)))
plain_picked b false e = ap (low_byte capitals.Stay) (sym (small b e))

plain_text : (text : List ℕ) → flat_map (low_byte capitals.Stay) text ≡ flat_map (low_byte capitals.Stay) (lower text)
plain_text [] = refl
plain_text (b ∷ text) = ap (λ t. t ++ flat_map (low_byte capitals.Stay) text) (plain_picked b (is_capital b) refl) ∙ ap (λ t. low_byte capitals.Stay (to_ascii_lowercase b) ++ t) (plain_text text)

plain_same : (a b : List ℕ) → lower a ≡ lower b → flat_map (low_byte capitals.Stay) a ≡ flat_map (low_byte capitals.Stay) b
plain_same a b e = plain_text a ∙ ap (flat_map (low_byte capitals.Stay)) e ∙ sym (plain_text b)

-- if two names are one where case does not count, so are the names with capitals
pub plain_alike : (p q : Capitals) (a c b d : List ℕ) → Bytes a → Bytes c → Bytes b → Bytes d → lower (name_with p a c) ≡ lower (name_with q b d) → lower (file_name a c) ≡ lower (file_name b d)
plain_alike p q a c b d of_a of_c of_b of_d e =
    let authority = sym (low_all p a) ∙ ap lower (first p q a c b d of_a of_c of_b of_d e) ∙ low_all q b in
    let code = sym (low_all p c) ∙ ap lower (second p q a c b d of_a of_c of_b of_d e) ∙ low_all q d in
    low_name capitals.Stay a c ∙ ap (λ t. t ++ (95 ∷ (flat_map (low_byte capitals.Stay) c ++ codes ".wkt"))) (plain_same a b authority)
    ∙ ap (λ t. flat_map (low_byte capitals.Stay) b ++ (95 ∷ (t ++ codes ".wkt"))) (plain_same c d code) ∙ sym (low_name capitals.Stay b d)
