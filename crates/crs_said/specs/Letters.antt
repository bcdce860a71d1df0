-- The letters of a name, and what its parts are.
use Rattle.std.specs.Prelude.{ℕ, zero, suc, ◌-◌, nat_le, Bool, ◌&&◌, ◌||◌, List, [], ◌∷◌, length, take, drop, Option, Some, codes, if◌then◌else◌}
use Rattle.std.specs.Char.{to_ascii_lowercase}
use Rattle.std.specs.List.{flat_map}
use Rattle.crs_exact.specs.Names.{begins}

-- a letter, a digit, or a byte of a character beyond ASCII
abbrev pub is_kept : ℕ → Bool
is_kept b = (nat_le 48 b && nat_le b 57) || (nat_le 65 b && nat_le b 90) || (nat_le 97 b && nat_le b 122) || nat_le 128 b

abbrev pub kept_of : ℕ → List ℕ
kept_of b = if is_kept b then to_ascii_lowercase b ∷ [] else []

abbrev pub ends : List ℕ → List ℕ → Bool
ends part text = begins part (drop (length text - length part) text)

-- without `height` or `depth` at the end
abbrev pub trimmed : List ℕ → List ℕ
trimmed text =
    if ends (codes "height") text then take (length text - 6) text
    else if ends (codes "depth") text then take (length text - 5) text
    else text

-- letters and digits alone, in lower case, without `height` or `depth` at the end
abbrev pub letters : List ℕ → List ℕ
letters name = trimmed (flat_map kept_of name)

-- how many bytes come before the first place of the part, or how many there are
abbrev pub place : List ℕ → List ℕ → ℕ
place part [] = zero
place part (n ∷ ns) = if begins part (n ∷ ns) then zero else suc (place part ns)

-- what follows the last place of the part
abbrev pub behind_last : List ℕ → List ℕ → Option (List ℕ) → Option (List ℕ)
behind_last part [] found = found
behind_last part (n ∷ ns) found = behind_last part ns (if begins part (n ∷ ns) then Some (drop (length part) (n ∷ ns)) else found)
