-- Office files and shelves, by their first bytes.
use Rattle.std.specs.Prelude.{◌≡◌, ◌≤◌, ◌++◌, ℕ, List, take, codes}
use Rattle.std.specs.Int.{w32, to_be_bytes}
use Rattle.byte_shelf.specs.Shelf.{HasHead, IsSize}

-- the bytes begin a register's file
abbrev pub BeginsRegister : List ℕ → Type 0
BeginsRegister bytes = take 4 bytes ≡ codes "CRSR"

-- the bytes are a length of at most the size, and the first ones of a register's file
abbrev pub BeginsSlot : ℕ → List ℕ → Type 0
BeginsSlot size slot = (len : ℕ) × (len ≤ size) × (slot ≡ to_be_bytes w32 len ++ codes "CRSR")

-- the file begins with a gate and a size that a shelf may have, and the slot in use with a register
pub record BeginsShelf (start slot : List ℕ) : Type 0 where
  pub gate : ℕ
  pub size : ℕ
  pub in_range : IsSize size
  pub head : HasHead start gate size
  pub in_use : BeginsSlot size slot
