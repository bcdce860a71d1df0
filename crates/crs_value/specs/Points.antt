-- Points on the globe, and the texts that name them.
use Rattle.std.specs.Prelude.{ℕ, ◌==◌, Bool, not, if◌then◌else◌, List, [], ◌∷◌, take, drop}
use Rattle.std.specs.List.{prefix_len}
use Rattle.crs_number.specs.Numeral.{Spells}
use Rattle.crs_value.specs.declared.search.point.Point.{Point}
use Rattle.crs_value.specs.Usages.{IsWithin}

-- a latitude of at most 90 degrees, and a longitude of at most 180, on both sides of 0
abbrev pub IsOnGlobe : Point → Type 0
IsOnGlobe p = IsWithin 90 p.latitude × IsWithin 180 p.longitude

abbrev pub is_no_comma : ℕ → Bool
is_no_comma b = not (b == 44)

-- the bytes before the first comma, and those from it on
abbrev pub before_comma : List ℕ → List ℕ
before_comma text = take (prefix_len is_no_comma text) text

abbrev pub from_comma : List ℕ → List ℕ
from_comma text = drop (prefix_len is_no_comma text) text

-- without a blank at the front
abbrev pub without_blank : List ℕ → List ℕ
without_blank [] = []
without_blank (b ∷ bs) = if b == 32 then bs else b ∷ bs

-- the bytes behind the comma, without a blank at their front
abbrev pub behind_comma : List ℕ → List ℕ
behind_comma [] = []
behind_comma (b ∷ bs) = without_blank bs

-- the text is the latitude, a comma, perhaps a blank, and the longitude
abbrev pub Names : List ℕ → Point → Type 0
Names text p = Spells (before_comma text) p.latitude.coefficient p.latitude.exponent
    × Spells (behind_comma (from_comma text)) p.longitude.coefficient p.longitude.exponent
    × IsOnGlobe p
