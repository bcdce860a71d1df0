-- Texts and their parts, letters A to Z alike in either case.
use Rattle.std.specs.Prelude.{◌≡◌, ◌++◌, ℕ, List, map}
use Rattle.std.specs.Char.{to_ascii_lowercase}

abbrev pub lower : List ℕ → List ℕ
lower text = map to_ascii_lowercase text

-- they are the same
abbrev pub IsAlike : List ℕ → List ℕ → Type 0
IsAlike one other = lower one ≡ lower other

-- the text is the part, and something after it
abbrev pub BeginsWith : List ℕ → List ℕ → Type 0
BeginsWith part text = (back : List ℕ) × (lower text ≡ lower part ++ back)

-- the text is something, the part, and something after it
abbrev pub HasPart : List ℕ → List ℕ → Type 0
HasPart part text = (front : List ℕ) × (back : List ℕ) × (lower text ≡ front ++ (lower part ++ back))
