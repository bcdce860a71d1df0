-- What the names of parameters tell.
use Rattle.std.specs.Prelude.{ℕ, Bool, ◌||◌, List, codes}
use Rattle.crs_exact.specs.Names.{begins}

abbrev pub is_latitude_name : List ℕ → Bool
is_latitude_name n = begins (codes "latitude") n || begins (codes "standard parallel") n || begins (codes "spherical latitude") n

abbrev pub is_longitude_name : List ℕ → Bool
is_longitude_name n = begins (codes "longitude") n || begins (codes "central meridian") n || begins (codes "initial longitude") n || begins (codes "spherical longitude") n

abbrev pub is_turn_name : List ℕ → Bool
is_turn_name n = begins (codes "co-latitude") n || begins (codes "azimuth") n || begins (codes "angle from") n || begins (codes "xy plane rotation") n

abbrev pub is_angle_name : List ℕ → Bool
is_angle_name n = is_latitude_name n || is_longitude_name n || is_turn_name n

abbrev pub is_length_name : List ℕ → Bool
is_length_name n = begins (codes "false easting") n || begins (codes "false northing") n || begins (codes "easting at") n || begins (codes "northing at") n || begins (codes "ellipsoidal height") n || begins (codes "geocentric") n

abbrev pub is_scale_name : List ℕ → Bool
is_scale_name n = begins (codes "scale factor") n || begins (codes "ellipsoid scaling") n
