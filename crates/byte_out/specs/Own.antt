-- The name of the new file, which no other program uses.
use Rattle.std.specs.Prelude.{◌≡◌, ◌⊎◌, ℕ, ◌++◌, List, Option, Some, None, codes, take, drop}
use Rattle.std.specs.Str.Pattern.{RFindsChar}

-- a dot, the name, and `.crsreg`
abbrev pub marked : List ℕ → List ℕ
marked name = codes "." ++ name ++ codes ".crsreg"

-- in the folder of the file. The name of the file is what follows its last slash, from i to j, if it has one
abbrev pub IsOwnPath : List ℕ → List ℕ → Type 0
IsOwnPath path own = (RFindsChar 47 path None × (own ≡ marked path))
    ⊎ ((i : ℕ) × (j : ℕ) × RFindsChar 47 path (Some (i, j)) × (own ≡ take i path ++ (codes "/" ++ marked (drop j path))))

-- the file that a link leads to, or else the one with the path
abbrev pub file_of : Option (List ℕ) → List ℕ → List ℕ
file_of None path = path
file_of (Some led) path = led
