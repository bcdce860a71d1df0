-- Names, compared without letter case, and with underscores as blanks.
use Rattle.std.specs.Prelude.{ℕ, ◌==◌, Bool, true, false, ◌&&◌, ◌||◌, List, [], ◌∷◌, length, drop, codes, if◌then◌else◌}
use Rattle.std.specs.Char.{to_ascii_lowercase}

-- A to Z as a to z, and the underscore as a blank
abbrev pub plain : ℕ → ℕ
plain byte = if byte == 95 then 32 else to_ascii_lowercase byte

-- this part begins the name
abbrev pub begins : List ℕ → List ℕ → Bool
begins [] name = true
begins (p ∷ ps) [] = false
begins (p ∷ ps) (n ∷ ns) = plain n == plain p && begins ps ns

-- the name is this one
abbrev pub is_named : List ℕ → List ℕ → Bool
is_named wanted name = length name == length wanted && begins wanted name

-- the name is this one, perhaps with more in parentheses after it
abbrev pub is_called : List ℕ → List ℕ → Bool
is_called wanted name = begins wanted name && (length name == length wanted || begins (codes " (") (drop (length wanted) name))

-- the part stands somewhere in the name
abbrev pub has_part : List ℕ → List ℕ → Bool
has_part part [] = begins part []
has_part part (n ∷ ns) = begins part (n ∷ ns) || has_part part ns
