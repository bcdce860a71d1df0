-- The values that texts, numbers and words denote.
use Rattle.std.specs.Prelude.{◌≡◌, ℕ, ◌<◌, ◌^◌, List, [], ◌∷◌, Bool, true, false, if◌then◌else◌, map}
use Rattle.std.specs.Char.{to_ascii_lowercase}
use Rattle.crs_number.specs.Numeral.{Spells}
use Rattle.crs_number.specs.Count.{SpellsWhole}
use Rattle.crs_number.specs.declared.decimals.Decimal.{Decimal}
use Rattle.crs_part.specs.declared.text.Text.{Text}
use Rattle.wkt_tree.specs.Tokens.{quoted, is_mark}
use Rattle.wkt_grammar.specs.Bare.{Bare, text, number, word}

-- the bytes between the marks: of two marks the first is dropped, and so is the closing one
abbrev pub undoubled : Bool → List ℕ → List ℕ
undoubled marked [] = []
undoubled true (b ∷ bs) = b ∷ undoubled false bs
undoubled false (b ∷ bs) = if is_mark b then undoubled true bs else b ∷ undoubled false bs

-- two words are the same apart from letter case
abbrev pub SameWord : List ℕ → List ℕ → Type 0
SameWord a b = map to_ascii_lowercase a ≡ map to_ascii_lowercase b

abbrev pub DenotesText : Bare → Text → Type 0
DenotesText x t = x ≡ text (quoted t.bytes)

pub record DenotesNumber (x : Bare) (d : Decimal) : Type 0 where
  pub bytes : List ℕ
  pub is : x ≡ number bytes
  pub spells : Spells bytes d.coefficient d.exponent

-- a whole number
pub record DenotesCount (x : Bare) (n : ℕ) : Type 0 where
  pub bytes : List ℕ
  pub is : x ≡ number bytes
  pub spells : SpellsWhole bytes n
  pub small : n < 2 ^ 32

-- the word of a value, in any letter case
pub record DenotesWord {A : Type 0} (spelling : A → List ℕ) (x : Bare) (v : A) : Type 0 where
  pub bytes : List ℕ
  pub is : x ≡ word bytes
  pub spells : SameWord (spelling v) bytes
