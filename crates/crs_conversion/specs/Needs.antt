-- The parameters that a method needs.
use Rattle.std.specs.Prelude.{ℕ, Bool, false, not, ◌||◌, List, [], Option, Some, None}
use Rattle.std.specs.List.{list_any}
use Rattle.std.specs.Option.{option_map_or}
use Rattle.crs_number.specs.declared.decimals.Decimal.{Decimal}
use Rattle.crs_part.specs.declared.conversions.Parameter.{Parameter}
use Rattle.crs_exact.specs.Tables.{is_code, row_of}
use Rattle.crs_conversion.specs.declared.tables.TheConstants.{PARAMETERS}
use Rattle.crs_conversion.specs.Codes.{epsg_code, first_name, has_name}

abbrev pub is_named_so : Option (List ℕ) → List ℕ → Bool
is_named_so None name = false
is_named_so (Some row) name = has_name row name

abbrev pub is_coded_so : List ℕ → Option Decimal → Bool
is_coded_so code None = false
is_coded_so code (Some n) = is_code code n

-- by a name of the row or by the code
abbrev pub is_parameter : Option (List ℕ) → List ℕ → Parameter → Bool
is_parameter row code p = is_named_so row p.name.bytes || is_coded_so code (epsg_code p.ids)

-- no parameter is that with this code
abbrev pub is_missing : List Parameter → List ℕ → Bool
is_missing ps code = not (list_any (is_parameter (row_of PARAMETERS.now code) code) ps)

-- the name of the parameter with this code
abbrev pub parameter_name : List ℕ → List ℕ
parameter_name code = option_map_or first_name (row_of PARAMETERS.now code) []
