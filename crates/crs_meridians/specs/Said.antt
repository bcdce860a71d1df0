-- The central meridian that a name says.
use Rattle.std.specs.Prelude.{ℕ, ◌+◌, ◌*◌, ◌-◌, ◌==◌, nat_le, nat_lt, Bool, true, false, ◌&&◌, ◌||◌, List, [], ◌∷◌, drop, Option, Some, None, codes, if◌then◌else◌}
use Rattle.std.specs.Option.{option_or}
use Rattle.crs_exact.specs.Names.{begins}
use Rattle.crs_meridians.specs.declared.said.SaidMeridian.{SaidMeridian}

abbrev pub is_digit : ℕ → Bool
is_digit b = nat_le 48 b && nat_le b 57

-- E or W, and the end of the name
abbrev pub side : ℕ → ℕ → List ℕ → Option SaidMeridian
side micro b [] =
    if b == 69 || b == 101 then Some (record { is_west = false; micro = micro })
    else if b == 87 || b == 119 then Some (record { is_west = true; micro = micro })
    else None
side micro b (c ∷ rest) = None

abbrev pub end_of : ℕ → List ℕ → Option SaidMeridian
end_of micro [] = None
end_of micro (b ∷ rest) = side micro b rest

-- a decimal, and the side
abbrev pub after_point : ℕ → List ℕ → Option SaidMeridian
after_point micro [] = None
after_point micro (b ∷ rest) = if is_digit b then end_of (micro + (b - 48) * 100000) rest else None

-- a point and a decimal, or the side
abbrev pub ended : ℕ → ℕ → List ℕ → Option SaidMeridian
ended n b rest = if b == 46 then after_point (n * 1000000) rest else side (n * 1000000) b rest

-- the rest of a number below 1000
abbrev pub whole_part : ℕ → List ℕ → Option SaidMeridian
whole_part n [] = None
whole_part n (b ∷ rest) =
    if is_digit b then (if nat_lt 99 n then None else whole_part (n * 10 + (b - 48)) rest)
    else ended n b rest

-- a number below 1000, perhaps with a decimal, then E or W, and the end
abbrev pub meridian_behind : List ℕ → Option SaidMeridian
meridian_behind [] = None
meridian_behind (b ∷ rest) = if is_digit b then whole_part (b - 48) rest else None

-- that behind the first `CM ` with one
abbrev pub meridian_said : List ℕ → Option SaidMeridian
meridian_said [] = None
meridian_said (n ∷ ns) = option_or (if begins (codes "CM ") (n ∷ ns) then meridian_behind (drop 3 (n ∷ ns)) else None) (meridian_said ns)
