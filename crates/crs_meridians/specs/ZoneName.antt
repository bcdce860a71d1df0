-- The zone that a name says.
use Rattle.std.specs.Prelude.{ℕ, ◌+◌, ◌*◌, ◌-◌, ◌==◌, nat_le, Bool, false, ◌&&◌, ◌||◌, List, [], ◌∷◌, length, drop, Option, Some, None, codes, if◌then◌else◌}
use Rattle.std.specs.Option.{option_or}
use Rattle.crs_exact.specs.Names.{begins}
use Rattle.crs_meridians.specs.declared.grid.Grid.{Grid}
use Rattle.crs_meridians.specs.declared.grid.Grid.TheVariants.{UtmNorth, UtmSouth, Utm, Three, Six}
use Rattle.crs_meridians.specs.declared.grid.Zone.{Zone}

-- what follows the first place of the part in the name
abbrev pub behind : List ℕ → List ℕ → Option (List ℕ)
behind part [] = None
behind part (n ∷ ns) = if begins part (n ∷ ns) then Some (drop (length part) (n ∷ ns)) else behind part ns

abbrev pub is_digit : ℕ → Bool
is_digit b = nat_le 48 b && nat_le b 57

abbrev pub is_letter : ℕ → Bool
is_letter b = (nat_le 65 b && nat_le b 90) || (nat_le 97 b && nat_le b 122)

-- a letter or a digit comes next
abbrev pub goes_on : List ℕ → Bool
goes_on [] = false
goes_on (b ∷ bs) = is_digit b || is_letter b

-- the zone of this number, if there are so many
abbrev pub zone_of : Grid → ℕ → ℕ → Option Zone
zone_of grid most n = if nat_le 1 n && nat_le n most then Some (record { grid = grid; number = n }) else None

-- no letter and no digit follows the number of a zone of UTM
abbrev pub sideless : ℕ → ℕ → Option Zone
sideless b n = if is_digit b || is_letter b then None else zone_of Utm 60 n

-- behind the number of a zone of UTM: N, S, or neither, and the end of the word
abbrev pub utm_sided : ℕ → List ℕ → Option Zone
utm_sided n [] = zone_of Utm 60 n
utm_sided n (b ∷ bs) =
    if goes_on bs then sideless b n
    else if b == 78 || b == 110 then zone_of UtmNorth 60 n
    else if b == 83 || b == 115 then zone_of UtmSouth 60 n
    else sideless b n

-- behind the number of another zone: the end of the word
abbrev pub ended : Grid → ℕ → ℕ → List ℕ → Option Zone
ended grid most n rest = if goes_on rest then None else zone_of grid most n

abbrev pub finished : Grid → ℕ → List ℕ → Option Zone
finished Utm n rest = utm_sided n rest
finished UtmNorth n rest = utm_sided n rest
finished UtmSouth n rest = utm_sided n rest
finished Three n rest = ended Three 99 n rest
finished Six n rest = ended Six 60 n rest

-- a number of one digit or two, and what follows it
abbrev pub numbered : Grid → List ℕ → Option Zone
numbered grid [] = None
numbered grid (a ∷ []) = if is_digit a then finished grid (a - 48) [] else None
numbered grid (a ∷ b ∷ rest) =
    if is_digit a then (if is_digit b then finished grid ((a - 48) * 10 + (b - 48)) rest else finished grid (a - 48) (b ∷ rest))
    else None

abbrev pub numbered_behind : Grid → Option (List ℕ) → Option Zone
numbered_behind grid None = None
numbered_behind grid (Some rest) = numbered grid rest

-- the name begins so
abbrev pub at_start : List ℕ → List ℕ → Option (List ℕ)
at_start part name = if begins part name then Some (drop (length part) name) else None

-- of zones of UTM: `UTM zone 32N`, `UTM-Zone 32` or `UTM 32N`
abbrev pub utm_said : List ℕ → Option Zone
utm_said name =
    option_or (option_or
    (numbered_behind Utm (behind (codes "UTM zone ") name))
    (numbered_behind Utm (behind (codes "UTM-zone ") name)))
    (numbered_behind Utm (behind (codes "UTM ") name))

-- what follows `Gauss-Kr` where a zone is named: the rest of Kruger, Krueger or Krüger in UTF-8
abbrev pub after_kr : Grid → List ℕ → Option Zone
after_kr grid rest =
    option_or (option_or
    (numbered_behind grid (at_start (codes "uger zone ") rest))
    (numbered_behind grid (at_start (codes "ueger zone ") rest)))
    (numbered_behind grid (at_start (195 ∷ 188 ∷ codes "ger zone ") rest))

abbrev pub kr_behind : Grid → Option (List ℕ) → Option Zone
kr_behind grid None = None
kr_behind grid (Some rest) = after_kr grid rest

-- of UTM, or of zones of 3 degrees
abbrev pub width_said : List ℕ → Option Zone
width_said name = option_or (utm_said name) (kr_behind Three (behind (codes "3-degree Gauss-Kr") name))

-- the zone that a name says: of UTM, of zones of 3 degrees, or of 6
abbrev pub zone_said : List ℕ → Option Zone
zone_said name =
    option_or (option_or
    (width_said name)
    (kr_behind Six (behind (codes "/ Gauss-Kr") name)))
    (kr_behind Six (at_start (codes "Gauss-Kr") name))

-- the central meridian is west of Greenwich
abbrev pub is_west_in : Grid → ℕ → Bool
is_west_in UtmNorth n = nat_le n 30
is_west_in UtmSouth n = nat_le n 30
is_west_in Utm n = nat_le n 30
is_west_in Three n = nat_le 61 n
is_west_in Six n = nat_le 31 n

abbrev pub utm_degrees : ℕ → ℕ
utm_degrees n = if nat_le n 30 then 183 - 6 * n else 6 * n - 183

abbrev pub three_degrees : ℕ → ℕ
three_degrees n = if nat_le 61 n then 360 - 3 * n else 3 * n

abbrev pub six_degrees : ℕ → ℕ
six_degrees n = if nat_le n 30 then 6 * n - 3 else 363 - 6 * n

-- so many degrees
abbrev pub degrees_in : Grid → ℕ → ℕ
degrees_in UtmNorth n = utm_degrees n
degrees_in UtmSouth n = utm_degrees n
degrees_in Utm n = utm_degrees n
degrees_in Three n = three_degrees n
degrees_in Six n = six_degrees n
