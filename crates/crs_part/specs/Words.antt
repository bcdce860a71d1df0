-- The words of kinds and directions, in canonical spelling, and what a word means in any letter case.
use Rattle.std.specs.Prelude.{ℕ, List, [], ◌∷◌, Bool, map, Option, Some, None, if◌then◌else◌, codes}
use Rattle.std.specs.Char.{to_ascii_lowercase}
use Rattle.std.specs.Str.{bytes_eq}
use Rattle.crs_part.specs.declared.systems.Direction.{Direction}
use Rattle.crs_part.specs.declared.systems.Direction.TheVariants as to
use Rattle.crs_part.specs.declared.systems.SystemKind.{SystemKind}
use Rattle.crs_part.specs.declared.systems.SystemKind.TheVariants as kind

abbrev pub system_word : SystemKind → List ℕ
system_word kind.Ellipsoidal = codes "ellipsoidal"
system_word kind.Cartesian = codes "Cartesian"
system_word kind.Spherical = codes "spherical"
system_word kind.Vertical = codes "vertical"

abbrev pub direction_word : Direction → List ℕ
direction_word to.North = codes "north"
direction_word to.NorthNorthEast = codes "northNorthEast"
direction_word to.NorthEast = codes "northEast"
direction_word to.EastNorthEast = codes "eastNorthEast"
direction_word to.East = codes "east"
direction_word to.EastSouthEast = codes "eastSouthEast"
direction_word to.SouthEast = codes "southEast"
direction_word to.SouthSouthEast = codes "southSouthEast"
direction_word to.South = codes "south"
direction_word to.SouthSouthWest = codes "southSouthWest"
direction_word to.SouthWest = codes "southWest"
direction_word to.WestSouthWest = codes "westSouthWest"
direction_word to.West = codes "west"
direction_word to.WestNorthWest = codes "westNorthWest"
direction_word to.NorthWest = codes "northWest"
direction_word to.NorthNorthWest = codes "northNorthWest"
direction_word to.GeocentricX = codes "geocentricX"
direction_word to.GeocentricY = codes "geocentricY"
direction_word to.GeocentricZ = codes "geocentricZ"
direction_word to.Up = codes "up"
direction_word to.Down = codes "down"

-- whether two words are the same apart from letter case
abbrev pub same_word : List ℕ → List ℕ → Bool
same_word a b = bytes_eq (map to_ascii_lowercase a) (map to_ascii_lowercase b)

-- the first of some values that has the word, which is in small letters
abbrev pub first_word : {A : Type 0} → (A → List ℕ) → List A → List ℕ → Option A
first_word f [] l = None
first_word f (v ∷ vs) l = if bytes_eq (map to_ascii_lowercase (f v)) l then Some v else first_word f vs l

abbrev pub kinds_listed : List SystemKind
kinds_listed = kind.Ellipsoidal ∷ kind.Cartesian ∷ kind.Spherical ∷ kind.Vertical ∷ []

abbrev pub directions_listed : List Direction
directions_listed = to.North ∷ to.NorthNorthEast ∷ to.NorthEast ∷ to.EastNorthEast ∷ to.East ∷ to.EastSouthEast ∷ to.SouthEast ∷ to.SouthSouthEast ∷ to.South ∷ to.SouthSouthWest ∷ to.SouthWest ∷ to.WestSouthWest ∷ to.West ∷ to.WestNorthWest ∷ to.NorthWest ∷ to.NorthNorthWest ∷ to.GeocentricX ∷ to.GeocentricY ∷ to.GeocentricZ ∷ to.Up ∷ to.Down ∷ []
