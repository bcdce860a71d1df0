-- The state of a walk through a file, at a place.
use Rattle.std.specs.Prelude.{◌≡◌, ◌⊎◌, ◌+◌, ◌≤◌, ◌++◌, ℕ, true, List, take}
use Rattle.std.specs.List.{list_all}
use Rattle.wkt_explain.specs.Characters.{chars}
use Rattle.wkt_explain.specs.Position.{goes_on, first_line, last_line, without_return, line_number, column, text_in}
use Rattle.wkt_explain.specs.Shown.{shown_lines}
use Rattle.wkt_explain.specs.declared.walk.Spot.{Spot}

-- the bytes end at the end of a character, whatever prefix of the following bytes is added
abbrev pub AreWhole : List ℕ → List ℕ → Type 0
AreWhole bytes behind = (n : ℕ) → chars (bytes ++ take n behind) ≡ chars bytes ++ chars (take n behind)

-- no line ends between two places of a file
abbrev pub IsInLine : List ℕ → ℕ → ℕ → Type 0
IsInLine file at place = (at ≤ place) × (list_all goes_on (text_in file at place) ≡ true)

-- no byte of the line was passed, or the place is at least 320 bytes further on
abbrev pub IsFar : ℕ → ℕ → ℕ → Type 0
IsFar passed at place = (passed ≡ 0) ⊎ (at + 320 ≤ place)

-- the lines and columns of a place after and before these bytes, and what is shown of its line
pub record IsSpot (spot : Spot) (before after : List ℕ) : Type 0 where
  pub line : spot.line ≡ line_number before
  pub column : spot.column ≡ column before
  pub shown : shown_lines (chars spot.before.now) (chars spot.after.now) ≡ shown_lines (chars (last_line before)) (chars (without_return (first_line after)))
