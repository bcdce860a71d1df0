-- Which numerals are counts: whole numbers from 0 to 4,294,967,295.
use Rattle.std.specs.Prelude.{ℕ, suc, ◌+◌, ◌*◌, ◌/◌, ◌%◌, ◌^◌, ◌<◌, Bool, true, false, ◌&&◌, ◌||◌, ◌==◌, if◌then◌else◌, nat_lt, nat_le, List, [], ◌∷◌, length, take, drop, ℤ, pos, negsuc}
use Rattle.std.specs.Char.{is_ascii_digit}
use Rattle.std.specs.List.{prefix_len}
use Rattle.crs_number.specs.Numeral.{Parts, Spells, number_of, exponent_of}
use Rattle.crs_number.specs.Reading.{first_passes, is_sign_byte, is_period}
use Rattle.crs_number.specs.Value.{IsWhole}

-- the bytes spell the number n, which is whole
pub record SpellsWhole (text : List ℕ) (n : ℕ) : Type 0 where
  pub coefficient : ℤ
  pub exponent : ℤ
  pub spells : Spells text coefficient exponent
  pub whole : IsWhole coefficient exponent (pos n)

-- the bytes spell a whole number from 0 to 4,294,967,295
pub record IsCount (text : List ℕ) : Type 0 where
  pub count : ℕ
  pub spelled : SpellsWhole text count
  pub small : count < 2 ^ 32

-- ---- the same as a test

abbrev pub begins_with_minus : List ℕ → Bool
begins_with_minus text = first_passes (λ c. c == 45) text

abbrev pub behind_sign : List ℕ → List ℕ
behind_sign [] = []
behind_sign (c ∷ text) = if is_sign_byte c then text else c ∷ text

-- the digits that the bytes begin with
abbrev pub digits_in : List ℕ → List ℕ
digits_in text = take (prefix_len is_ascii_digit text) text

abbrev pub behind_digits : List ℕ → List ℕ
behind_digits text = drop (prefix_len is_ascii_digit text) text

-- the digits after a period
abbrev pub fraction_in : List ℕ → List ℕ
fraction_in [] = []
fraction_in (c ∷ text) = if is_period c then digits_in text else []

abbrev pub behind_fraction : List ℕ → List ℕ
behind_fraction [] = []
behind_fraction (c ∷ text) = if is_period c then behind_digits text else c ∷ text

-- nothing, or 'E' or 'e', a sign and digits
abbrev pub is_power : List ℕ → Bool
is_power [] = true
is_power (c ∷ text) =
    (c == 69 || c == 101)
    && (nat_lt 0 (length (digits_in (behind_sign text)))
    && length (behind_digits (behind_sign text)) == 0)

-- the bytes after the period and its digits
abbrev pub power_in : List ℕ → List ℕ
power_in text = behind_fraction (behind_digits (behind_sign text))

-- the parts of a text that has the form of a numeral
unfoldable pub parts_in : List ℕ → Parts
parts_in text = record {
  negative = begins_with_minus text;
  whole = digits_in (behind_sign text);
  fraction = fraction_in (behind_digits (behind_sign text));
  exponent_negative = begins_with_minus (drop 1 (power_in text));
  exponent = digits_in (behind_sign (drop 1 (power_in text)));
}

-- the bytes have the form of a numeral
unfoldable pub is_numeral : List ℕ → Bool
is_numeral text =
    is_power (power_in text)
    && nat_lt 0 (length (parts_in text).whole + length (parts_in text).fraction)

-- the number times ten to the power is whole, and from 0 to 4,294,967,295
abbrev pub is_count_at : ℤ → ℤ → Bool
is_count_at (pos n) (pos k) = nat_lt (n * 10 ^ k) (2 ^ 32)
is_count_at (pos n) (negsuc k) = n % 10 ^ suc k == 0 && nat_lt (n / 10 ^ suc k) (2 ^ 32)
is_count_at (negsuc n) power = false

-- the bytes are a numeral of a decimal's length, whose value is a count
unfoldable pub is_count : List ℕ → Bool
is_count text =
    let parts = parts_in text in
    is_numeral text
    && (nat_le (length text) 100
    && (nat_le (length parts.exponent) 4
    && is_count_at (number_of parts) (exponent_of parts)))
