-- Rows of PROJ's tables, as SQLite tells them apart.
use Rattle.std.specs.Prelude.{ℕ, Bool, List, [], Option, Some, None}
use Rattle.std.specs.Cmp.Lexicographic.{slice_cmp}
use Rattle.std.specs.Option.{option_cmp}
use Rattle.std.specs.Ordering.{is_eq, nat_cmp, int_cmp, ordering_then}
use Rattle.std.specs.declared.cmp.Ordering.{Ordering}
use Rattle.crs_number.specs.declared.decimals.Decimal.{Decimal}
use Rattle.crs_export.specs.declared.filed.EntryText.{EntryText}
use Rattle.crs_export.specs.Boxes.{value_of}

-- the authority, and the number that SQLite reads in the code, or else the code
pub record PlaceBytes : Type 0 where
  pub authority : List ℕ
  pub number : Option Decimal
  pub code : List ℕ

abbrev pub unless_number : Option Decimal → List ℕ → List ℕ
unless_number None code = code
unless_number (Some d) code = []

abbrev pub place_of : EntryText → PlaceBytes
place_of k = record { authority = k.authority.now; number = k.number; code = unless_number k.number k.code.now }

abbrev pub number_cmp : Option Decimal → Option Decimal → Ordering
number_cmp a b = option_cmp (λ x y. int_cmp (value_of x) (value_of y)) a b

abbrev pub place_cmp : PlaceBytes → PlaceBytes → Ordering
place_cmp a b = ordering_then (slice_cmp nat_cmp a.authority b.authority) (ordering_then (number_cmp a.number b.number) (slice_cmp nat_cmp a.code b.code))

abbrev pub is_same_place : PlaceBytes → PlaceBytes → Bool
is_same_place a b = is_eq (place_cmp a b)
