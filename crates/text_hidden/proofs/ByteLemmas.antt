-- The bytes of a character, read as those of a hidden one.
use Rattle.std.proofs.Common.{◌≡◌, ℕ, ◌+◌, ◌-◌, ◌*◌, ◌/◌, ◌%◌, ◌<◌, ◌≤◌, ◌==◌, true, false, List, [], ◌∷◌, ◌++◌, length, None, inl, inr, refl, sym, ap, ◌∙◌, arith}
use Rattle.std.proofs.lemmas.Bool.{cases_lt, lt-ltb, le-ltb, le-leb, and_from}
use Rattle.std.proofs.lemmas.Bool.Decides.{nat_tests}
use Rattle.std.proofs.lemmas.Str.{encode_ascii, len_utf8_ascii}
use Rattle.std.specs.Char.{encode_utf8, len_utf8}
use Rattle.std.specs.List.{list_all}
use Rattle.text_hidden.specs.Set.{is_hidden}
use Rattle.text_hidden.specs.Bytes.{continues, hidden_if, hidden_from, hidden_at, first_hidden}

-- what is read of the bytes of a character, however many there are
abbrev Read : ℕ → List ℕ → Type 0
Read c rest = first_hidden (encode_utf8 c ++ rest) ≡ hidden_if c (len_utf8 c - 1)

read_by : (c : ℕ) (rest bytes : List ℕ) (n : ℕ) → encode_utf8 c ≡ bytes → len_utf8 c ≡ n → first_hidden (bytes ++ rest) ≡ hidden_if c (n - 1) → Read c rest
read_by c rest bytes n e l is = ap (λ bs. first_hidden (bs ++ rest)) e ∙ is ∙ ap (λ m. hidden_if c (m - 1)) (sym l)

from_least : (least c more : ℕ) → least ≤ c → hidden_from least c more ≡ hidden_if c more
from_least least c more h = rw (le-leb least c h) refl

-- ---- one byte

one_at : (c : ℕ) (rest : List ℕ) → c < 128 → hidden_at c rest ≡ hidden_if c 0
one_at c rest h = rw (lt-ltb c 128 h) refl

read_one : (c : ℕ) (rest : List ℕ) → c < 128 → Read c rest
read_one c rest h = read_by c rest (c ∷ []) 1 (encode_ascii c h) (len_utf8_ascii c h) (one_at c rest h)

-- ---- two bytes

two_at : (b d : ℕ) (rest : List ℕ) → 192 ≤ b → b < 224 → 128 ≤ d → d ≤ 191 → hidden_at b (d ∷ rest) ≡ hidden_from 0x80 (b % 32 * 64 + d % 64) 1
two_at b d rest low high least most = rw (le-ltb b 128 (omega arith), le-ltb b 192 low, lt-ltb b 224 high, le-leb 128 d least, le-leb d 191 most) refl

bytes_two : (c : ℕ) → 128 ≤ c → c < 2048 → encode_utf8 c ≡ (192 + c / 64) ∷ (128 + c % 64) ∷ []
unfolding encode_utf8
bytes_two c low high = rw (le-ltb c 128 low, lt-ltb c 2048 high) refl

len_two : (c : ℕ) → 128 ≤ c → c < 2048 → len_utf8 c ≡ 2
len_two c low high = rw (le-ltb c 128 low, lt-ltb c 2048 high) refl

read_two : (c : ℕ) (rest : List ℕ) → 128 ≤ c → c < 2048 → Read c rest
read_two c rest low high =
    let code : (192 + c / 64) % 32 * 64 + (128 + c % 64) % 64 ≡ c = omega arith in
    read_by c rest ((192 + c / 64) ∷ (128 + c % 64) ∷ []) 2 (bytes_two c low high) (len_two c low high)
    (two_at (192 + c / 64) (128 + c % 64) rest (omega arith) (omega arith) (omega arith) (omega arith) ∙ ap (λ x. hidden_from 0x80 x 1) code ∙ from_least 0x80 c 1 low)

-- ---- three bytes

three_at : (b c d : ℕ) (rest : List ℕ) → 224 ≤ b → b < 240 → 128 ≤ c → c ≤ 191 → 128 ≤ d → d ≤ 191
    → hidden_at b (c ∷ d ∷ rest) ≡ hidden_from 0x800 (b % 16 * 4096 + c % 64 * 64 + d % 64) 2
three_at b c d rest low high c_least c_most d_least d_most =
    rw (le-ltb b 128 (omega arith), le-ltb b 192 (omega arith), le-ltb b 224 low, lt-ltb b 240 high, le-leb 128 c c_least, le-leb c 191 c_most, le-leb 128 d d_least, le-leb d 191 d_most) refl

bytes_three : (c : ℕ) → 2048 ≤ c → c < 65536 → encode_utf8 c ≡ (224 + c / 4096) ∷ (128 + c / 64 % 64) ∷ (128 + c % 64) ∷ []
unfolding encode_utf8
bytes_three c low high = rw (le-ltb c 128 (omega arith), le-ltb c 2048 low, lt-ltb c 65536 high) refl

len_three : (c : ℕ) → 2048 ≤ c → c < 65536 → len_utf8 c ≡ 3
len_three c low high = rw (le-ltb c 128 (omega arith), le-ltb c 2048 low, lt-ltb c 65536 high) refl

read_three : (c : ℕ) (rest : List ℕ) → 2048 ≤ c → c < 65536 → Read c rest
read_three c rest low high =
    let code : (224 + c / 4096) % 16 * 4096 + (128 + c / 64 % 64) % 64 * 64 + (128 + c % 64) % 64 ≡ c = omega arith in
    read_by c rest ((224 + c / 4096) ∷ (128 + c / 64 % 64) ∷ (128 + c % 64) ∷ []) 3 (bytes_three c low high) (len_three c low high)
    (three_at (224 + c / 4096) (128 + c / 64 % 64) (128 + c % 64) rest (omega arith) (omega arith) (omega arith) (omega arith) (omega arith) (omega arith)
    ∙ ap (λ x. hidden_from 0x800 x 2) code ∙ from_least 0x800 c 2 low)

-- ---- four bytes

four_at : (b : ℕ) (rest : List ℕ) → 240 ≤ b → hidden_at b rest ≡ None
four_at b rest h = rw (le-ltb b 128 (omega arith), le-ltb b 192 (omega arith), le-ltb b 224 (omega arith), le-ltb b 240 h) refl

bytes_four : (c : ℕ) → 65536 ≤ c → encode_utf8 c ≡ (240 + c / 262144) ∷ (128 + c / 4096 % 64) ∷ (128 + c / 64 % 64) ∷ (128 + c % 64) ∷ []
unfolding encode_utf8
bytes_four c low = rw (le-ltb c 128 (omega arith), le-ltb c 2048 (omega arith), le-ltb c 65536 low) refl

len_four : (c : ℕ) → 65536 ≤ c → len_utf8 c ≡ 4
len_four c low = rw (le-ltb c 128 (omega arith), le-ltb c 2048 (omega arith), le-ltb c 65536 low) refl

none_high : (c : ℕ) → 65536 ≤ c → is_hidden c ≡ false
none_high c low = grind (arith, nat_tests)

pub none_if : (c more : ℕ) → is_hidden c ≡ false → hidden_if c more ≡ None
none_if c more e = rw e refl

none_from : (c more : ℕ) → 65536 ≤ c → hidden_if c more ≡ None
none_from c more low = none_if c more (none_high c low)

read_four : (c : ℕ) (rest : List ℕ) → 65536 ≤ c → Read c rest
read_four c rest low =
    read_by c rest ((240 + c / 262144) ∷ (128 + c / 4096 % 64) ∷ (128 + c / 64 % 64) ∷ (128 + c % 64) ∷ []) 4 (bytes_four c low) (len_four c low)
    (four_at (240 + c / 262144) ((128 + c / 4096 % 64) ∷ (128 + c / 64 % 64) ∷ (128 + c % 64) ∷ rest) (omega arith) ∙ sym (none_from c 3 low))

pub read : (c : ℕ) (rest : List ℕ) → first_hidden (encode_utf8 c ++ rest) ≡ hidden_if c (len_utf8 c - 1)
read c rest = elim (cases_lt c 128) [
  | inl one ↦ read_one c rest one
  | inr above ↦ elim (cases_lt c 2048) [
    | inl two ↦ read_two c rest above two
    | inr higher ↦ elim (cases_lt c 65536) [ inl three ↦ read_three c rest higher three | inr four ↦ read_four c rest four ]
  ]
]

-- ---- the bytes of a character

-- its first byte, and those that continue it
pub record Spelled (c : ℕ) : Type 0 where
  pub lead : ℕ
  pub others : List ℕ
  pub is : encode_utf8 c ≡ lead ∷ others
  pub many : length others ≡ len_utf8 c - 1
  pub continued : list_all continues others ≡ true
  pub feed : (lead == 10) ≡ (c == 10)

no_feed : (b c : ℕ) → 128 ≤ b → 128 ≤ c → (b == 10) ≡ (c == 10)
no_feed b c h k = grind (arith, nat_tests)

goes_on : (x : ℕ) → x < 64 → continues (128 + x) ≡ true
goes_on x h = grind (arith, nat_tests)

spelled_one : (c : ℕ) → c < 128 → Spelled c
spelled_one c h = record { lead = c; others = []; is = encode_ascii c h; many = ap (λ n. n - 1) (sym (len_utf8_ascii c h)); continued = refl; feed = refl }

spelled_two : (c : ℕ) → 128 ≤ c → c < 2048 → Spelled c
spelled_two c low high = record {
  lead = 192 + c / 64;
  others = (128 + c % 64) ∷ [];
  is = bytes_two c low high;
  many = ap (λ n. n - 1) (sym (len_two c low high));
  continued = and_from _ _ (goes_on (c % 64) (omega arith)) refl;
  feed = no_feed (192 + c / 64) c (omega arith) low;
}

spelled_three : (c : ℕ) → 2048 ≤ c → c < 65536 → Spelled c
spelled_three c low high = record {
  lead = 224 + c / 4096;
  others = (128 + c / 64 % 64) ∷ (128 + c % 64) ∷ [];
  is = bytes_three c low high;
  many = ap (λ n. n - 1) (sym (len_three c low high));
  continued = and_from _ _ (goes_on (c / 64 % 64) (omega arith)) (and_from _ _ (goes_on (c % 64) (omega arith)) refl);
  feed = no_feed (224 + c / 4096) c (omega arith) (omega arith);
}

spelled_four : (c : ℕ) → 65536 ≤ c → Spelled c
spelled_four c low = record {
  lead = 240 + c / 262144;
  others = (128 + c / 4096 % 64) ∷ (128 + c / 64 % 64) ∷ (128 + c % 64) ∷ [];
  is = bytes_four c low;
  many = ap (λ n. n - 1) (sym (len_four c low));
  continued = and_from _ _ (goes_on (c / 4096 % 64) (omega arith)) (and_from _ _ (goes_on (c / 64 % 64) (omega arith)) (and_from _ _ (goes_on (c % 64) (omega arith)) refl));
  feed = no_feed (240 + c / 262144) c (omega arith) (omega arith);
}

pub spelled : (c : ℕ) → Spelled c
spelled c = elim (cases_lt c 128) [
  | inl one ↦ spelled_one c one
  | inr above ↦ elim (cases_lt c 2048) [
    | inl two ↦ spelled_two c above two
    | inr higher ↦ elim (cases_lt c 65536) [ inl three ↦ spelled_three c higher three | inr four ↦ spelled_four c four ]
  ]
]
