-- The fields of a text in the sheet of keys.
use Rattle.std.specs.Prelude.{ℕ, List, [], ◌∷◌, Option, Some, None, codes, drop, if◌then◌else◌}
use Rattle.std.specs.List.{flat_map}
use Rattle.crs_number.specs.Canonical.{canonical}
use Rattle.crs_number.specs.declared.decimals.Decimal.{Decimal}
use Rattle.crs_part.specs.Slots.{name_of}
use Rattle.crs_part.specs.declared.text.Text.{Text}
use Rattle.crs_part.specs.declared.crs.CrsParts.{CrsParts}
use Rattle.crs_part.specs.declared.crs.CrsParts.TheVariants as whole
use Rattle.crs_part.specs.declared.crs.GeodeticKind.{GeodeticKind}
use Rattle.crs_part.specs.declared.crs.GeodeticKind.TheVariants as geodetic
use Rattle.crs_part.specs.declared.crs.Single.TheVariants as single
use Rattle.crs_part.specs.declared.usages.BoundingBox.{BoundingBox}
use Rattle.crs_part.specs.declared.usages.Usage.{Usage}
use Rattle.crs_value.specs.Usages.{usages_of}
use Rattle.reg_texts.specs.Listing.{successor_text}
use Rattle.reg_texts.specs.Said.{Said}
use Rattle.reg_texts.specs.declared.key_fields.BoxNumerals.{BoxNumerals}

-- ---- the kind

abbrev pub geodetic_word : GeodeticKind → List ℕ
geodetic_word geodetic.Geodetic = codes "geodetic"
geodetic_word geodetic.Geographic = codes "geographic"

abbrev pub kind_word : CrsParts → List ℕ
kind_word (whole.Single (single.Geodetic crs)) = geodetic_word crs.kind
kind_word (whole.Single (single.Projected crs)) = codes "projected"
kind_word (whole.Single (single.Vertical crs)) = codes "vertical"
kind_word (whole.Compound crs) = codes "compound"

-- ---- the area of use: that of the first usage

abbrev pub area_text : Option Text → List ℕ
area_text None = []
area_text (Some area) = area.bytes

abbrev pub area_in : List Usage → List ℕ
area_in [] = []
area_in (u ∷ us) = area_text u.area

abbrev pub box_in : List Usage → Option BoundingBox
box_in [] = None
box_in (u ∷ us) = u.bounding_box

-- the numerals of a box
pub record SideTexts : Type 0 where
  pub south : List ℕ
  pub west : List ℕ
  pub north : List ℕ
  pub east : List ℕ

abbrev pub numeral : Decimal → List ℕ
numeral d = canonical d.coefficient d.exponent

abbrev pub sides_of : Option BoundingBox → SideTexts
sides_of None = record { south = []; west = []; north = []; east = [] }
sides_of (Some b) = record { south = numeral b.south; west = numeral b.west; north = numeral b.north; east = numeral b.east }

abbrev pub side_texts : BoxNumerals → SideTexts
side_texts s = record { south = s.south.items; west = s.west.items; north = s.north.items; east = s.east.items }

-- ---- the status: a text is superseded if some entry with it is

abbrev pub status_word : Said → List ℕ
status_word s = if s.valid then codes "valid" else codes "superseded"

-- the keys of all successors, with one space between
abbrev pub replaced_by : Said → List Said → List ℕ
replaced_by s others = if s.valid then [] else drop 1 (flat_map successor_text others)

abbrev pub sheet_header : List (List ℕ)
sheet_header =
    codes "authority" ∷ codes "code" ∷ codes "name" ∷ codes "kind" ∷ codes "area" ∷ codes "south" ∷ codes "west" ∷ codes "north" ∷ codes "east" ∷ codes "status" ∷ codes "replaced_by" ∷ []

abbrev pub with_sides : Said → List Said → CrsParts → SideTexts → List (List ℕ)
with_sides s others p sides =
    s.key.authority ∷ s.key.code ∷ (name_of p).bytes ∷ kind_word p ∷ area_in (usages_of p) ∷ sides.south ∷ sides.west ∷ sides.north ∷ sides.east ∷ status_word s
    ∷ replaced_by s others ∷ []

abbrev pub key_fields : Said → List Said → CrsParts → List (List ℕ)
key_fields s others p = with_sides s others p (sides_of (box_in (usages_of p)))
