-- The choices that the next keyword makes.
use Rattle.std.specs.Prelude.{Bool, true, false, List, [], ◌∷◌, Option, Some, None}
use Rattle.crs_part.specs.declared.units.UnitDefinition.{UnitDefinition}
use Rattle.crs_part.specs.declared.units.Unit as units
use Rattle.crs_part.specs.declared.units.Unit.TheVariants as unit
use Rattle.crs_part.specs.declared.units.LengthUnit.{LengthUnit}
use Rattle.crs_part.specs.declared.units.LengthUnit.TheVariants as length_unit
use Rattle.crs_part.specs.declared.units.AngleUnit.{AngleUnit}
use Rattle.crs_part.specs.declared.units.AngleUnit.TheVariants as angle_unit
use Rattle.crs_part.specs.declared.crs.GeodeticKind.{GeodeticKind}
use Rattle.crs_part.specs.declared.crs.GeodeticKind.TheVariants as geodetic_kind
use Rattle.wkt_tree.specs.Tree.{Tok}
use Rattle.wkt_grammar.specs.declared.table.Keyword.{Keyword}
use Rattle.wkt_grammar.specs.declared.table.Keyword.TheVariants as keywords
use Rattle.wkt_grammar.specs.Words.{keyword_of}

-- the meaning of the next token as a keyword
abbrev pub next_keyword : List Tok → Option Keyword
next_keyword [] = None
next_keyword (t ∷ ts) = keyword_of t.piece.bytes

abbrev pub unit_as : Option Keyword → UnitDefinition → units.Unit
unit_as (Some keywords.LengthUnit) v = unit.Length v
unit_as (Some keywords.AngleUnit) v = unit.Angle v
unit_as (Some keywords.ScaleUnit) v = unit.Scale v
unit_as _ v = unit.Generic v

abbrev pub length_unit_as : Option Keyword → UnitDefinition → LengthUnit
length_unit_as (Some keywords.LengthUnit) v = length_unit.Length v
length_unit_as _ v = length_unit.Generic v

abbrev pub angle_unit_as : Option Keyword → UnitDefinition → AngleUnit
angle_unit_as (Some keywords.AngleUnit) v = angle_unit.Angle v
angle_unit_as _ v = angle_unit.Generic v

abbrev pub geodetic_kind_of : Option Keyword → GeodeticKind
geodetic_kind_of (Some keywords.GeodeticCrs) = geodetic_kind.Geodetic
geodetic_kind_of (Some keywords.BaseGeodeticCrs) = geodetic_kind.Geodetic
geodetic_kind_of _ = geodetic_kind.Geographic

abbrev pub is_ensemble : Option Keyword → Bool
is_ensemble (Some keywords.Ensemble) = true
is_ensemble _ = false

abbrev pub is_projected : Option Keyword → Bool
is_projected (Some keywords.ProjectedCrs) = true
is_projected _ = false

abbrev pub is_vertical : Option Keyword → Bool
is_vertical (Some keywords.VerticalCrs) = true
is_vertical _ = false

abbrev pub is_compound : Option Keyword → Bool
is_compound (Some keywords.CompoundCrs) = true
is_compound _ = false
