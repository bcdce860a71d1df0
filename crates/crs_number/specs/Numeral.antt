-- The form of a numeral, and the number that it spells. Digits are bytes.
use Rattle.std.specs.Prelude.{◌≡◌, ℕ, ◌+◌, ◌^◌, ◌<◌, ◌≤◌, ◌%◌, Bool, true, false, ◌⊎◌, List, [], ◌∷◌, ◌++◌, length, ℤ, pos, negsuc, neg_ℤ, ◌*ℤ◌, ◌+ℤ◌, ◌-ℤ◌, ◌≤ℤ◌, unsigned_abs}
use Rattle.std.specs.Str.Parse.{AllDigits, IsNumeral, digits_value}

-- a sign, the digits before and after the period, the sign and the digits of the exponent
pub record Parts : Type 0 where
  pub negative : Bool
  pub whole : List ℕ
  pub fraction : List ℕ
  pub exponent_negative : Bool
  pub exponent : List ℕ

-- nothing or '+', or '-'
abbrev pub IsSign : List ℕ → Bool → Type 0
IsSign [] negative = negative ≡ false
IsSign (c ∷ []) negative = ((c ≡ 43) × (negative ≡ false)) ⊎ ((c ≡ 45) × (negative ≡ true))
IsSign (c ∷ d ∷ text) negative = ⊥

-- nothing, or a period and digits
abbrev pub IsFraction : List ℕ → List ℕ → Type 0
IsFraction [] digits = digits ≡ []
IsFraction (c ∷ text) digits = (c ≡ 46) × (text ≡ digits) × AllDigits 10 digits

-- a sign and at least one digit
pub record IsWholeNumber (text : List ℕ) (negative : Bool) (digits : List ℕ) : Type 0 where
  pub sign : List ℕ
  pub is_sign : IsSign sign negative
  pub is_digits : IsNumeral 10 digits
  pub is_text : text ≡ sign ++ digits

-- nothing, or 'E' or 'e' and a whole number
abbrev pub IsPower : List ℕ → Bool → List ℕ → Type 0
IsPower [] negative digits = (negative ≡ false) × (digits ≡ [])
IsPower (c ∷ text) negative digits = ((c ≡ 69) ⊎ (c ≡ 101)) × IsWholeNumber text negative digits

-- the bytes are these parts, one after another
pub record HasParts (text : List ℕ) (parts : Parts) : Type 0 where
  pub sign : List ℕ
  pub point : List ℕ
  pub power : List ℕ
  pub is_sign : IsSign sign parts.negative
  pub is_whole : AllDigits 10 parts.whole
  pub is_point : IsFraction point parts.fraction
  pub is_power : IsPower power parts.exponent_negative parts.exponent
  pub has_digits : 0 < length parts.whole + length parts.fraction
  pub is_text : text ≡ sign ++ (parts.whole ++ (point ++ power))

-- the bytes have the form of a numeral
abbrev pub HasForm : List ℕ → Type 0
HasForm text = (parts : Parts) × HasParts text parts

-- the number with this sign and this size
abbrev pub signed : Bool → ℕ → ℤ
signed false size = pos size
signed true size = neg_ℤ (pos size)

-- n times ten to the x is c times ten to the e, where c is not a multiple of ten; 0 is (0, 0)
abbrev pub IsNormalForm : ℤ → ℤ → ℤ → ℤ → Type 0
IsNormalForm n x c e =
    ((n ≡ pos 0) × (c ≡ pos 0) × (e ≡ pos 0))
    ⊎ ((unsigned_abs c % 10 ≡ 0 → ⊥) × ((k : ℕ) × (n ≡ c *ℤ pos (10 ^ k)) × (e ≡ x +ℤ pos k)))

-- the digits as one whole number
abbrev pub number_of : Parts → ℤ
number_of parts = signed parts.negative (digits_value 10 (parts.whole ++ parts.fraction))

-- the power of ten that this number is taken to
abbrev pub exponent_of : Parts → ℤ
exponent_of parts =
    signed parts.exponent_negative (digits_value 10 parts.exponent) -ℤ pos (length parts.fraction)

-- a pair that a decimal can hold
pub record IsInRange (c e : ℤ) : Type 0 where
  pub small : unsigned_abs c < 10 ^ 34
  pub low : negsuc 39 ≤ℤ e
  pub high : e ≤ℤ pos 40

-- the value of the parts is c times ten to the e
pub record HasValue (parts : Parts) (c e : ℤ) : Type 0 where
  pub normal : IsNormalForm (number_of parts) (exponent_of parts) c e
  pub short_exponent : length parts.exponent ≤ 4
  pub in_range : IsInRange c e

-- the bytes spell c times ten to the e
pub record Spells (text : List ℕ) (c e : ℤ) : Type 0 where
  pub parts : Parts
  pub form : HasParts text parts
  pub value : HasValue parts c e
  pub short : length text ≤ 100

-- the digits of the parts are digits
pub record HasDigits (parts : Parts) : Type 0 where
  pub whole : AllDigits 10 parts.whole
  pub fraction : AllDigits 10 parts.fraction
  pub exponent : AllDigits 10 parts.exponent
