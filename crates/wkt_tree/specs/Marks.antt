-- Runs of bytes with no mark.
use Rattle.std.specs.Prelude.{◌≡◌, ℕ, ◌+◌, ◌<◌, ◌≤◌, true, false, List, slice_index}
use Rattle.wkt_tree.specs.Tokens.{is_mark}

-- there is no mark from one place up to another
abbrev pub IsPlain : List ℕ → ℕ → ℕ → Type 0
IsPlain bytes from to = (k : ℕ) → from ≤ k → k < to → is_mark (slice_index bytes k) ≡ false

-- the number of bytes before the first mark, among this many from a place on
pub record IsPlainRun (bytes : List ℕ) (from most run : ℕ) : Type 0 where
  pub within : run ≤ most
  pub plain : IsPlain bytes from (from + run)
  pub stops : run < most → is_mark (slice_index bytes (from + run)) ≡ true
