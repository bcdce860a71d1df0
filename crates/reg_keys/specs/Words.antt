-- Words that name keys.
use Rattle.std.specs.Prelude.{◌≡◌, ◌++◌, ◌∷◌, ℕ, List}
use Rattle.crs_value.specs.Parts.{IsAlike}
use Rattle.reg_report.specs.Conflicts.{KeyBytes}

-- the word is the key: its authority, where letters A to Z match in either case, a colon, and its code
abbrev pub NamesKey : List ℕ → KeyBytes → Type 0
NamesKey word k = (front : List ℕ) × IsAlike front k.authority × (word ≡ front ++ 58 ∷ k.code)
