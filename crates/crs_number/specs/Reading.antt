-- The parts that the steps of reading a numeral cut off the front of a text.
use Rattle.std.specs.Prelude.{◌≡◌, ℕ, Bool, false, ◌||◌, ◌==◌, List, [], ◌∷◌, ◌++◌, ⊤}
use Rattle.std.specs.Char.{is_ascii_digit}
use Rattle.std.specs.Str.Parse.{AllDigits}
use Rattle.crs_number.specs.Numeral.{IsSign, IsFraction}

-- the first byte, if there is one, passes the test
abbrev pub first_passes : (ℕ → Bool) → List ℕ → Bool
first_passes p [] = false
first_passes p (c ∷ text) = p c

-- `+` or `-`
abbrev pub is_sign_byte : ℕ → Bool
is_sign_byte c = c == 43 || c == 45

-- `.`
abbrev pub is_period : ℕ → Bool
is_period c = c == 46

-- if there is no text, no byte of the kind follows
abbrev pub EndsUnless : (ℕ → Bool) → List ℕ → List ℕ → Type 0
EndsUnless p [] rest = first_passes p rest ≡ false
EndsUnless p (c ∷ text) rest = ⊤

-- a sign, if there is one, and the rest
pub record CutsSign (text : List ℕ) (negative : Bool) (rest : List ℕ) : Type 0 where
  pub sign : List ℕ
  pub is_sign : IsSign sign negative
  pub ends : EndsUnless is_sign_byte sign rest
  pub is_text : text ≡ sign ++ rest

-- the longest run of digits, and the rest
pub record CutsDigits (text digits rest : List ℕ) : Type 0 where
  pub is_digits : AllDigits 10 digits
  pub ends : first_passes is_ascii_digit rest ≡ false
  pub is_text : text ≡ digits ++ rest

-- without a period, no period follows; after one, no further digit does
abbrev pub EndsFraction : List ℕ → List ℕ → Type 0
EndsFraction [] rest = first_passes is_period rest ≡ false
EndsFraction (c ∷ text) rest = first_passes is_ascii_digit rest ≡ false

-- a period and the longest run of digits, if there is a period, and the rest
pub record CutsFraction (text digits rest : List ℕ) : Type 0 where
  pub point : List ℕ
  pub is_point : IsFraction point digits
  pub ends : EndsFraction point rest
  pub is_text : text ≡ point ++ rest
