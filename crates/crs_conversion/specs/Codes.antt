-- Codes of EPSG's registry, and the rows of what they name.
use Rattle.std.specs.Prelude.{ℕ, Bool, List, [], ◌∷◌, Option, Some, None, codes, if◌then◌else◌}
use Rattle.std.specs.List.{list_any}
use Rattle.std.specs.Option.{option_and_then}
use Rattle.crs_number.specs.declared.decimals.Decimal.{Decimal}
use Rattle.crs_part.specs.declared.identifiers.Ident.{Ident}
use Rattle.crs_part.specs.declared.identifiers.NumberOrText.{NumberOrText}
use Rattle.crs_part.specs.declared.identifiers.NumberOrText.TheVariants.{Number, Text}
use Rattle.crs_exact.specs.Names.{is_named}
use Rattle.crs_exact.specs.Tables.{pieces, before, past, row_coded}

abbrev pub number_in : NumberOrText → Option Decimal
number_in (Number n) = Some n
number_in (Text t) = None

-- the number of the first identifier, if that is of EPSG
abbrev pub epsg_code : List Ident → Option Decimal
epsg_code [] = None
epsg_code (id ∷ ids) = if is_named (codes "EPSG") id.authority.bytes then number_in id.code else None

-- the row with this code
abbrev pub known : List ℕ → List Ident → Option (List ℕ)
known table ids = option_and_then (row_coded table) (epsg_code ids)

-- a row has a code; its names, with commas between them; the codes that it needs, likewise
abbrev pub names : List ℕ → List ℕ
names row = before 59 (past 59 row)

abbrev pub first_name : List ℕ → List ℕ
first_name row = before 44 (names row)

abbrev pub needs : List ℕ → List ℕ
needs row = before 59 (past 59 (past 59 row))

abbrev pub is_among : List ℕ → List ℕ → Bool
is_among some name = list_any (λ n. is_named n name) (pieces 44 some)

abbrev pub has_name : List ℕ → List ℕ → Bool
has_name row name = is_among (names row) name
