-- The texts in places, as they are held entry by entry.
use Rattle.std.specs.Prelude.{◌≡◌, ℕ, List, Option, Some, None, if◌then◌else◌}
use Rattle.std.specs.BTreeMap.{BTreeMap, get}
use Rattle.std.specs.declared.cmp.Ordering.{Ordering}
use Rattle.crs_export.specs.declared.held.RowPlace.{RowPlace}
use Rattle.crs_export.specs.declared.held.HeldText.{HeldText}
use Rattle.crs_export.specs.Places.{PlaceBytes, place_cmp, is_same_place}

abbrev pub place_bytes : RowPlace → PlaceBytes
place_bytes p = record { authority = p.authority.now; number = p.number; code = p.code.now }

abbrev pub by_place : RowPlace → RowPlace → Ordering
by_place a b = place_cmp (place_bytes a) (place_bytes b)

abbrev pub text_in : Option HeldText → Option (List ℕ)
text_in None = None
text_in (Some h) = Some h.text.now

-- the text in each place
abbrev pub At : Type 0
At = PlaceBytes → Option (List ℕ)

-- the map has these texts
abbrev pub Holds : BTreeMap RowPlace HeldText → At → Type 0
Holds m at = (q : RowPlace) → text_in (get by_place m q) ≡ at (place_bytes q)

-- the place has this text, and every other place its old one
abbrev pub with_text : PlaceBytes → List ℕ → At → At
with_text p text at = λ q. if is_same_place p q then Some text else at q
