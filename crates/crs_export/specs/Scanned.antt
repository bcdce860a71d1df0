-- Bytes in which one byte that is read may be written as several.
use Rattle.std.specs.Prelude.{ℕ, zero, suc, List, [], ◌∷◌}

-- a byte that was read, and how many more bytes belong to it
pub record Read : Type 0 where
  pub byte : ℕ
  pub more : ℕ

-- the bytes that are read, if the first `more` bytes belong to a byte that was read before
module _ (read : ℕ → List ℕ → Read) where
  abbrev pub read_after : ℕ → List ℕ → List ℕ
  read_after more [] = []
  read_after zero (b ∷ rest) = (read b rest).byte ∷ read_after (read b rest).more rest
  read_after (suc more) (b ∷ rest) = read_after more rest
