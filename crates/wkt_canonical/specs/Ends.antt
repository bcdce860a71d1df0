-- The end of a text between marks.
use Rattle.std.specs.Prelude.{◌≡◌, ℕ, ◌<◌, ◌≤◌, true, List, Some, length, position, slice_index, take}
use Rattle.std.specs.Str.{is_utf8}
use Rattle.wkt_tree.specs.Tokens.{is_mark}

-- all bytes from one place up to another are ASCII
abbrev pub IsLow : List ℕ → ℕ → ℕ → Type 0
IsLow bytes from to = (k : ℕ) → from ≤ k → k < to → slice_index bytes k < 128

-- the place of the first mark, before which all is UTF-8
pub record IsEndOfText (bytes : List ℕ) (place : ℕ) : Type 0 where
  pub first : position is_mark bytes ≡ Some place
  pub within : place < length bytes
  pub utf8 : is_utf8 (take place bytes) ≡ true
