-- The key that is read from a name, and the bytes of a name.
use Rattle.std.proofs.Common.{◌≡◌, ℕ, ◌+◌, ◌-◌, ◌*◌, ◌/◌, ◌%◌, ◌<◌, ◌==◌, nat_lt, Bool, true, false, not, List, [], ◌∷◌, ◌++◌, All, map, codes, length, if◌then◌else◌, refl, sym, ap, ◌∙◌, arith, append-nil, append_assoc}
use Rattle.std.specs.List.{list_all, flat_map, AllByRecursion as ByRecursion}
use Rattle.std.proofs.lemmas.Bool.{and_parts}
use Rattle.std.proofs.lemmas.List.Elements.{recursion_from_All}
use Rattle.std.proofs.Math.Seq.{take-append_seam}
use Rattle.std.proofs.lemmas.List.{length-append}
use Rattle.std.proofs.lemmas.Nat.{div-add-mod'}
use Rattle.std.proofs.lemmas.Bool.Decides.{Decides-eqb, nat_tests}
use Rattle.reg_export.specs.declared.naming.Capitals.{Capitals}
use Rattle.reg_export.specs.declared.naming.Capitals.TheVariants as capitals
use Rattle.reg_export.specs.KeyNames.{is_plain, is_capital, stays, hex_digit, named_byte, named, name_with, digit_value, read_after, rest_after, without_end, authority_of, code_of, is_name_byte, is_no_separator}

-- ---- one byte

digit_picked : (n : ℕ) (t : Bool) → nat_lt n 10 ≡ t → digit_value (if t then 48 + n else 55 + n) ≡ n
digit_picked n true e = grind arith
digit_picked n false e = grind arith

digit_read : (n : ℕ) → digit_value (hex_digit n) ≡ n
digit_read n = digit_picked n (nat_lt n 10) refl

byte_read : (b : ℕ) → digit_value (hex_digit (b / 16)) * 16 + digit_value (hex_digit (b % 16)) ≡ b
byte_read b =
    ap (λ d. d * 16 + digit_value (hex_digit (b % 16))) (digit_read (b / 16)) ∙ ap (λ e. b / 16 * 16 + e) (digit_read (b % 16)) ∙ div-add-mod' b 16

-- a plain byte differs from each byte that is not plain
pub is_other : (n b : ℕ) → is_plain n ≡ false → is_plain b ≡ true → (b == n) ≡ false
is_other n b out plain =
    elim (b == n) as (λ t. (b == n) ≡ t → t ≡ false) [
      | true ↦ λ e. let same = (Decides-eqb b n).0 e in cc
      | false ↦ λ e. refl
    ] refl

abbrev pub picked : ℕ → Bool → List ℕ
picked b t = if t then b ∷ [] else (37 ∷ hex_digit (b / 16) ∷ hex_digit (b % 16) ∷ [])

pub plain_of : (c : Capitals) (b : ℕ) → stays c b ≡ true → is_plain b ≡ true
plain_of capitals.Stay b e = e
plain_of capitals.Escaped b e = (and_parts (is_plain b) (not (is_capital b)) e).0

-- ---- reading

-- a reader of digits sees these bytes as the byte v
abbrev pub IsRead : (ℕ → ℕ) → List ℕ → ℕ → Type 0
IsRead value [] v = ⊥
IsRead value (b ∷ []) v = (b ≡ v) × ((b == 95) ≡ false) × ((b == 37) ≡ false)
IsRead value (b ∷ d ∷ []) v = ⊥
IsRead value (b ∷ d ∷ e ∷ []) v = (value d * 16 + value e ≡ v) × ((b == 95) ≡ false) × ((b == 37) ≡ true)
IsRead value (b ∷ d ∷ e ∷ f ∷ rest) v = ⊥

one_read : (value : ℕ → ℕ) (code : List ℕ) (v : ℕ) (rest : List ℕ) → IsRead value code v → read_after value 0 (code ++ rest) ≡ v ∷ read_after value 0 rest
one_read value [] v rest h = absurd h
one_read value (b ∷ []) v rest (is, mark, escape) = rw (mark, escape) (ap (λ c. c ∷ read_after value 0 rest) is)
one_read value (b ∷ d ∷ []) v rest h = absurd h
one_read value (b ∷ d ∷ e ∷ []) v rest (is, mark, escape) = rw (mark, escape) (ap (λ c. c ∷ read_after value 0 rest) is)
one_read value (b ∷ d ∷ e ∷ f ∷ more) v rest h = absurd h

one_passed : (value : ℕ → ℕ) (code : List ℕ) (v : ℕ) (rest : List ℕ) → IsRead value code v → rest_after 0 (code ++ rest) ≡ rest_after 0 rest
one_passed value [] v rest h = absurd h
one_passed value (b ∷ []) v rest (is, mark, escape) = rw (mark, escape) refl
one_passed value (b ∷ d ∷ []) v rest h = absurd h
one_passed value (b ∷ d ∷ e ∷ []) v rest (is, mark, escape) = rw (mark, escape) refl
one_passed value (b ∷ d ∷ e ∷ f ∷ more) v rest h = absurd h

end_cut : (text : List ℕ) → without_end (text ++ codes ".wkt") ≡ text
end_cut text =
    let whole = length-append text (codes ".wkt") in
    let all : length (text ++ codes ".wkt") - 4 ≡ length text = omega (arith, whole) in
    rw all (take-append_seam text (codes ".wkt"))

-- what stands for each byte is read as one byte
module _ (value : ℕ → ℕ) (code : ℕ → List ℕ) (byte : ℕ → ℕ) (Q : ℕ → Type 0) (each : (b : ℕ) → Q b → IsRead value (code b) (byte b)) where
  text_read : (text rest : List ℕ) → ByRecursion Q text → read_after value 0 (flat_map code text ++ rest) ≡ map byte text ++ read_after value 0 rest
  text_read [] rest q = refl
  text_read (b ∷ text) rest q =
      ap (read_after value 0) (append_assoc (code b) (flat_map code text) rest) ∙ one_read value (code b) (byte b) (flat_map code text ++ rest) (each b q.0) ∙ ap (λ t. byte b ∷ t) (text_read text rest q.1)

  text_passed : (text rest : List ℕ) → ByRecursion Q text → rest_after 0 (flat_map code text ++ rest) ≡ rest_after 0 rest
  text_passed [] rest q = refl
  text_passed (b ∷ text) rest q =
      ap (rest_after 0) (append_assoc (code b) (flat_map code text) rest) ∙ one_passed value (code b) (byte b) (flat_map code text ++ rest) (each b q.0) ∙ text_passed text rest q.1

  pub first_part : (a c : List ℕ) → ByRecursion Q a → read_after value 0 (flat_map code a ++ (95 ∷ (flat_map code c ++ codes ".wkt"))) ≡ map byte a
  first_part a c q = text_read a (95 ∷ (flat_map code c ++ codes ".wkt")) q ∙ append-nil (map byte a)

  pub second_part : (a c : List ℕ) → ByRecursion Q a → ByRecursion Q c → without_end (read_after value 0 (rest_after 0 (flat_map code a ++ (95 ∷ (flat_map code c ++ codes ".wkt"))))) ≡ map byte c
  second_part a c q r =
      ap (λ rest. without_end (read_after value 0 rest)) (text_passed a (95 ∷ (flat_map code c ++ codes ".wkt")) q)
      ∙ ap without_end (text_read c (codes ".wkt") r) ∙ end_cut (map byte c)

exact_picked : (b : ℕ) (t : Bool) → (t ≡ true → is_plain b ≡ true) → IsRead digit_value (picked b t) b
exact_picked b true plain = (refl, is_other 95 b refl (plain refl), is_other 37 b refl (plain refl))
exact_picked b false plain = (byte_read b, refl, refl)

exact : (c : Capitals) (b : ℕ) → Unit {0} → IsRead digit_value (named_byte c b) b
exact c b u = exact_picked b (stays c b) (plain_of c b)

units : (text : List ℕ) → ByRecursion (λ b. Unit {0}) text
units [] = tt
units (b ∷ text) = (tt, units text)

pub each_same : (text : List ℕ) → map (λ (b : ℕ). b) text ≡ text
each_same [] = refl
each_same (b ∷ text) = ap (λ t. b ∷ t) (each_same text)

pub authority_read : (p : Capitals) (a c : List ℕ) → authority_of (name_with p a c) ≡ a
authority_read p a c = first_part digit_value (named_byte p) (λ b. b) (λ b. Unit {0}) (exact p) a c (units a) ∙ each_same a

pub code_read : (p : Capitals) (a c : List ℕ) → code_of (name_with p a c) ≡ c
code_read p a c = second_part digit_value (named_byte p) (λ b. b) (λ b. Unit {0}) (exact p) a c (units a) (units c) ∙ each_same c

pub not_shared : (p q : Capitals) (a c b d : List ℕ) → name_with p a c ≡ name_with q b d → (a ≡ b) × (c ≡ d)
not_shared p q a c b d e =
    (sym (authority_read p a c) ∙ ap authority_of e ∙ authority_read q b d, sym (code_read p a c) ∙ ap code_of e ∙ code_read q b d)

-- ---- the bytes of a name

pub long : (p : Capitals) (a c : List ℕ) → 4 < length (name_with p a c)
long p a c =
    let whole = length-append (named p a) (95 ∷ (named p c ++ codes ".wkt")) in
    let rest = length-append (named p c) (codes ".wkt") in
    omega (arith, whole, rest)

pub extension : (p : Capitals) (a c : List ℕ) → name_with p a c ≡ (named p a ++ (95 ∷ named p c)) ++ codes ".wkt"
extension p a c = sym (append_assoc (named p a) (95 ∷ named p c) (codes ".wkt"))

-- a test that each byte of the name of a byte passes
pub record Passes (p : ℕ → Bool) (b : ℕ) : Type 0 where
  pub plain : is_plain b ≡ true → p b ≡ true
  pub escape : p 37 ≡ true
  pub high : p (hex_digit (b / 16)) ≡ true
  pub low : p (hex_digit (b % 16)) ≡ true

first_passes : (p : ℕ → Bool) (b : ℕ) (rest : List ℕ) (t : Bool) → Passes p b → (t ≡ true → is_plain b ≡ true) → list_all p (picked b t ++ rest) ≡ list_all p rest
first_passes p b rest true passes e = let plain = passes.plain (e refl) in rw plain refl
first_passes p b rest false passes e =
    let escape = passes.escape in
    let high = passes.high in
    let low = passes.low in
    rw (escape, high, low) refl

all_pass : (n : Capitals) (p : ℕ → Bool) (Q : ℕ → Type 0) → ((b : ℕ) → Q b → Passes p b) → (text rest : List ℕ) → ByRecursion Q text → list_all p rest ≡ true → list_all p (named n text ++ rest) ≡ true
all_pass n p Q q [] rest each e = e
all_pass n p Q q (b ∷ text) rest each e =
    ap (list_all p) (append_assoc (named_byte n b) (named n text) rest) ∙ first_passes p b (named n text ++ rest) (stays n b) (q b each.0) (plain_of n b) ∙ all_pass n p Q q text rest each.1 e

name_passes : (n : Capitals) (p : ℕ → Bool) (Q : ℕ → Type 0) → ((b : ℕ) → Q b → Passes p b) → (a c : List ℕ) → ByRecursion Q a → ByRecursion Q c → list_all p (95 ∷ []) ≡ true
    → list_all p (codes ".wkt") ≡ true → list_all p (name_with n a c) ≡ true
name_passes n p Q q a c first second mark end =
    let rest = all_pass n p Q q c (codes ".wkt") second end in
    all_pass n p Q q a (95 ∷ (named n c ++ codes ".wkt")) first (joined p 95 (named n c ++ codes ".wkt") mark rest)
  where
    joined : (p : ℕ → Bool) (b : ℕ) (rest : List ℕ) → list_all p (b ∷ []) ≡ true → list_all p rest ≡ true → list_all p (b ∷ rest) ≡ true
    joined p b rest one others = cc

apart_picked : (n : ℕ) (t : Bool) → nat_lt n 10 ≡ t → is_no_separator (if t then 48 + n else 55 + n) ≡ true
apart_picked n true e = grind (arith, nat_tests)
apart_picked n false e = grind (arith, nat_tests)

apart : (b : ℕ) → Passes is_no_separator b
apart b = record {
  plain = λ e. let slash = is_other 47 b refl e in let nul = is_other 0 b refl e in rw (slash, nul) refl;
  escape = refl;
  high = apart_picked (b / 16) _ refl;
  low = apart_picked (b % 16) _ refl;
}

pub no_separator : (p : Capitals) (a c : List ℕ) → list_all is_no_separator (name_with p a c) ≡ true
no_separator p a c = name_passes p is_no_separator (λ b. Unit {0}) (λ b _. apart b) a c (units a) (units c) refl refl

digit_plain : (n : ℕ) (t : Bool) → n < 16 → nat_lt n 10 ≡ t → is_plain (if t then 48 + n else 55 + n) ≡ true
digit_plain n true below e = grind (arith, nat_tests)
digit_plain n false below e = grind (arith, nat_tests)

plain_named : (b : ℕ) → is_plain b ≡ true → is_name_byte b ≡ true
plain_named b e = rw e refl

in_names : (b : ℕ) → b < 256 → Passes is_name_byte b
in_names b below = record {
  plain = plain_named b;
  escape = refl;
  high = let high : b / 16 < 16 = omega arith in plain_named (hex_digit (b / 16)) (digit_plain (b / 16) _ high refl);
  low = let low : b % 16 < 16 = omega arith in plain_named (hex_digit (b % 16)) (digit_plain (b % 16) _ low refl);
}

pub name_bytes : (p : Capitals) (a c : List ℕ) → All (λ b. b < 256) a → All (λ b. b < 256) c → list_all is_name_byte (name_with p a c) ≡ true
name_bytes p a c first second =
    name_passes p is_name_byte (λ b. b < 256) in_names a c (recursion_from_All (λ b. b < 256) a first) (recursion_from_All (λ b. b < 256) c second) refl refl
