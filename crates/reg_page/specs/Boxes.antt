-- The bounding boxes of a reference system, by their numerals.
use Rattle.std.specs.Prelude.{ℕ, Bool, List, [], ◌∷◌, Option, Some, None}
use Rattle.std.specs.List.{flat_map}
use Rattle.std.specs.Ordering.{int_cmp, is_lt}
use Rattle.html_page.specs.Shown.{Box}
use Rattle.crs_number.specs.declared.decimals.Decimal.{Decimal}
use Rattle.crs_number.specs.Value.{units}
use Rattle.crs_number.specs.Canonical.{canonical}
use Rattle.crs_part.specs.declared.usages.BoundingBox.{BoundingBox}
use Rattle.crs_part.specs.declared.usages.Usage.{Usage}
use Rattle.reg_page.specs.declared.boxes.Edges.{Edges}

abbrev pub numeral : Decimal → List ℕ
numeral d = canonical d.coefficient d.exponent

-- west is greater than east, so the box crosses the meridian of 180 degrees
abbrev pub crosses : BoundingBox → Bool
crosses b = is_lt (int_cmp (units b.east.coefficient b.east.exponent) (units b.west.coefficient b.west.exponent))

-- the box of a definition, with the numerals of its canonical text
abbrev pub box_of : BoundingBox → Box
box_of b = record { south = numeral b.south; west = numeral b.west; north = numeral b.north; east = numeral b.east; crosses = crosses b }

abbrev pub box_seen : Edges → Box
box_seen e = record { south = e.south.items; west = e.west.items; north = e.north.items; east = e.east.items; crosses = e.crosses }

abbrev pub box_in : Option BoundingBox → List Box
box_in None = []
box_in (Some b) = box_of b ∷ []

abbrev pub boxes_in : List Usage → List Box
boxes_in usages = flat_map (λ (u : Usage). box_in u.bounding_box) usages
