-- A shelf with a register's file in the slot in use.
use Rattle.std.specs.Prelude.{◌≡◌, ℕ, List}
use Rattle.byte_shelf.specs.Shelf as slots
use Rattle.reg_file.specs.Contents.{Content}
use Rattle.reg_file.specs.Files.{ReadsAs}

-- the bytes in the slot in use are a file of the content, of either version
pub record IsShelf (image : List ℕ) (x : Content) : Type 0 where
  pub bytes : List ℕ
  pub shelf : slots.IsShelf image bytes
  pub held : ReadsAs bytes x

-- the same, of that size
abbrev pub IsShelfOf : List ℕ → ℕ → Content → Type 0
IsShelfOf image size x = (s : IsShelf image x) × (s.shelf.size ≡ size)

-- the image is a shelf of no content
abbrev pub IsNoShelf : List ℕ → Type 0
IsNoShelf image = (x : Content) → IsShelf image x → ⊥

-- the content has a file
abbrev pub HasFile : Content → Type 0
HasFile x = (bytes : List ℕ) × ReadsAs bytes x
