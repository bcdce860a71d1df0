-- Bounding boxes as geometries of GeoJSON (RFC 7946).
use Rattle.std.specs.Prelude.{ℕ, ◌++◌, Bool, true, false, ◌&&◌, List, [], ◌∷◌, ℤ, pos, codes, if◌then◌else◌}
use Rattle.std.specs.Ordering.{int_cmp, is_lt}
use Rattle.crs_number.specs.declared.decimals.Decimal.{Decimal}
use Rattle.crs_number.specs.Value.{units}
use Rattle.crs_number.specs.Numeral.{signed}
use Rattle.crs_number.specs.Canonical.{canonical}
use Rattle.crs_part.specs.declared.usages.BoundingBox.{BoundingBox}
use Rattle.crs_export.specs.declared.markup.TheConstants.{POLYGON, POLYGONS, EAST_END, WEST_END}

-- ---- decimals

abbrev pub numeral : Decimal → List ℕ
numeral d = canonical d.coefficient d.exponent

abbrev pub value_of : Decimal → ℤ
value_of d = units d.coefficient d.exponent

abbrev pub is_less : ℤ → ℤ → Bool
is_less a b = is_lt (int_cmp a b)

-- 180, or -180
abbrev pub half_turn : Bool → ℤ
half_turn negative = units (signed negative 18) (pos 1)

-- ---- geometries

-- `[longitude,latitude]`
abbrev pub position : List ℕ → List ℕ → List ℕ
position longitude latitude = 91 ∷ (longitude ++ (44 ∷ (latitude ++ 93 ∷ [])))

abbrev pub next_position : List ℕ → List ℕ → List ℕ
next_position longitude latitude = 44 ∷ position longitude latitude

-- one ring from the south-west, counterclockwise
abbrev pub polygon : List ℕ → List ℕ → List ℕ → List ℕ → List ℕ
polygon west south east north =
    codes "[[" ++ position west south ++ next_position east south ++ next_position east north ++ next_position west north ++ next_position west south ++ codes "]]"

abbrev pub whole : BoundingBox → List ℕ
whole b = POLYGON.now ++ polygon (numeral b.west) (numeral b.south) (numeral b.east) (numeral b.north)

-- the part from the west end of the box to 180, and the part from -180 to its east end, if they have a width
abbrev pub has_west : BoundingBox → Bool
has_west b = is_less (value_of b.west) (half_turn false)

abbrev pub has_east : BoundingBox → Bool
has_east b = is_less (half_turn true) (value_of b.east)

abbrev pub parts : List ℕ → List ℕ → List ℕ → List ℕ → Bool → Bool → List ℕ
parts west south east north has_west has_east =
    POLYGONS.now ++ (if has_west then polygon west south EAST_END.now north else []) ++ (if has_west && has_east then 44 ∷ [] else [])
    ++ (if has_east then polygon WEST_END.now south east north else []) ++ 93 ∷ []

abbrev pub cut : BoundingBox → List ℕ
cut b = parts (numeral b.west) (numeral b.south) (numeral b.east) (numeral b.north) (has_west b) (has_east b)

-- if west is greater than east, the box is cut at 180
abbrev pub geometry : BoundingBox → List ℕ
geometry b = if is_less (value_of b.east) (value_of b.west) then cut b else whole b
