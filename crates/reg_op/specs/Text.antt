-- The text of an id.
use Rattle.std.specs.Prelude.{◌≡◌, ◌<◌, ◌^◌, ◌++◌, ◌∷◌, ℕ, List, Some, length, decimal}
use Rattle.uuid.specs.Text.{hyphenated_text, lower, parsed}
use Rattle.reg_op.specs.Ids.{Id}

-- a UUID in small letters, a colon and the count
abbrev pub printed : Id → List ℕ
printed i = hyphenated_text lower i.replica ++ 58 ∷ decimal i.count

-- a count without leading zeros, from 1 to 4,294,967,295
pub record IsNumeral (text : List ℕ) (count : ℕ) : Type 0 where
  pub digits : text ≡ decimal count
  pub positive : 0 < count
  pub fits : count < 2 ^ 32

-- the same after a colon
pub record IsCount (text : List ℕ) (count : ℕ) : Type 0 where
  pub rest : List ℕ
  pub whole : text ≡ 58 ∷ rest
  pub numeral : IsNumeral rest count

-- thirty-six bytes of a hyphenated UUID in either case, and its count
pub record Spells (text : List ℕ) (i : Id) : Type 0 where
  pub front : List ℕ
  pub back : List ℕ
  pub whole : text ≡ front ++ back
  pub long : length front ≡ 36
  pub replica_is : parsed front ≡ Some i.replica
  pub count_is : IsCount back i.count
