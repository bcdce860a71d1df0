-- The keywords, their spellings, and the meanings of words, in any letter case.
use Rattle.std.specs.Prelude.{◌≡◌, ℕ, List, [], ◌∷◌, ◌++◌, Bool, true, ◌==◌, ◌&&◌, Option, map, codes}
use Rattle.std.specs.Char.{to_ascii_lowercase}
use Rattle.std.specs.Option.{is_some}
use Rattle.std.specs.List.{list_any}
use Rattle.std.specs.Map.{lookup}
use Rattle.crs_part.specs.Words.{system_word, kinds_listed, direction_word, directions_listed, first_word, same_word}
use Rattle.wkt_grammar.specs.declared.table.Keyword.{Keyword}
use Rattle.wkt_grammar.specs.declared.table.Keyword.TheVariants as keywords

-- the spelling that canonical texts have
abbrev pub spelling : Keyword → List ℕ
spelling keywords.GeodeticCrs = codes "GEODCRS"
spelling keywords.GeographicCrs = codes "GEOGCRS"
spelling keywords.ProjectedCrs = codes "PROJCRS"
spelling keywords.VerticalCrs = codes "VERTCRS"
spelling keywords.CompoundCrs = codes "COMPOUNDCRS"
spelling keywords.BaseGeodeticCrs = codes "BASEGEODCRS"
spelling keywords.BaseGeographicCrs = codes "BASEGEOGCRS"
spelling keywords.Datum = codes "DATUM"
spelling keywords.VerticalDatum = codes "VDATUM"
spelling keywords.Ensemble = codes "ENSEMBLE"
spelling keywords.Member = codes "MEMBER"
spelling keywords.Method = codes "METHOD"
spelling keywords.GeoidModel = codes "GEOIDMODEL"
spelling keywords.EnsembleAccuracy = codes "ENSEMBLEACCURACY"
spelling keywords.Ellipsoid = codes "ELLIPSOID"
spelling keywords.PrimeMeridian = codes "PRIMEM"
spelling keywords.Conversion = codes "CONVERSION"
spelling keywords.Parameter = codes "PARAMETER"
spelling keywords.LengthUnit = codes "LENGTHUNIT"
spelling keywords.AngleUnit = codes "ANGLEUNIT"
spelling keywords.ScaleUnit = codes "SCALEUNIT"
spelling keywords.Unit = codes "UNIT"
spelling keywords.CoordinateSystem = codes "CS"
spelling keywords.Axis = codes "AXIS"
spelling keywords.Meridian = codes "MERIDIAN"
spelling keywords.Order = codes "ORDER"
spelling keywords.Usage = codes "USAGE"
spelling keywords.BoundingBox = codes "BBOX"
spelling keywords.VerticalExtent = codes "VERTICALEXTENT"
spelling keywords.Scope = codes "SCOPE"
spelling keywords.Area = codes "AREA"
spelling keywords.Anchor = codes "ANCHOR"
spelling keywords.Citation = codes "CITATION"
spelling keywords.Uri = codes "URI"
spelling keywords.Remark = codes "REMARK"
spelling keywords.Identifier = codes "ID"

abbrev pub all_keywords : List Keyword
all_keywords = keywords.GeodeticCrs ∷ keywords.GeographicCrs ∷ keywords.ProjectedCrs ∷ keywords.VerticalCrs ∷ keywords.CompoundCrs ∷ keywords.BaseGeodeticCrs ∷ keywords.BaseGeographicCrs ∷ keywords.Datum ∷ keywords.VerticalDatum ∷ keywords.Ensemble ∷ keywords.Member ∷ keywords.Method ∷ keywords.GeoidModel ∷ keywords.EnsembleAccuracy ∷ keywords.Ellipsoid ∷ keywords.PrimeMeridian ∷ keywords.Conversion ∷ keywords.Parameter ∷ keywords.LengthUnit ∷ keywords.AngleUnit ∷ keywords.ScaleUnit ∷ keywords.Unit ∷ keywords.CoordinateSystem ∷ keywords.Axis ∷ keywords.Meridian ∷ keywords.Order ∷ keywords.Usage ∷ keywords.BoundingBox ∷ keywords.VerticalExtent ∷ keywords.Scope ∷ keywords.Area ∷ keywords.Anchor ∷ keywords.Citation ∷ keywords.Uri ∷ keywords.Remark ∷ keywords.Identifier ∷ []

-- the other spellings, and the meaning of each
abbrev pub alternates : List (List ℕ × Keyword)
alternates =
    (codes "GEODETICCRS", keywords.GeodeticCrs)
    ∷ (codes "GEOGRAPHICCRS", keywords.GeographicCrs)
    ∷ (codes "PROJECTEDCRS", keywords.ProjectedCrs)
    ∷ (codes "VERTICALCRS", keywords.VerticalCrs)
    ∷ (codes "TRF", keywords.Datum)
    ∷ (codes "GEODETICDATUM", keywords.Datum)
    ∷ (codes "VRF", keywords.VerticalDatum)
    ∷ (codes "VERTICALDATUM", keywords.VerticalDatum)
    ∷ (codes "PROJECTION", keywords.Method)
    ∷ (codes "SPHEROID", keywords.Ellipsoid)
    ∷ (codes "PRIMEMERIDIAN", keywords.PrimeMeridian)
    ∷ []

-- every spelling, and its meaning
abbrev pub meanings : List (List ℕ × Keyword)
meanings = map (λ k. (spelling k, k)) all_keywords ++ alternates

-- the meaning of a word: that of the first spelling that equals it, in any letter case
unfoldable pub keyword_of : List ℕ → Option Keyword
keyword_of bytes = lookup (λ w. same_word w bytes) meanings

-- the place of a keyword among all of them
abbrev pub place_of : Keyword → ℕ
place_of keywords.GeodeticCrs = 0
place_of keywords.GeographicCrs = 1
place_of keywords.ProjectedCrs = 2
place_of keywords.VerticalCrs = 3
place_of keywords.CompoundCrs = 4
place_of keywords.BaseGeodeticCrs = 5
place_of keywords.BaseGeographicCrs = 6
place_of keywords.Datum = 7
place_of keywords.VerticalDatum = 8
place_of keywords.Ensemble = 9
place_of keywords.Member = 10
place_of keywords.Method = 11
place_of keywords.GeoidModel = 12
place_of keywords.EnsembleAccuracy = 13
place_of keywords.Ellipsoid = 14
place_of keywords.PrimeMeridian = 15
place_of keywords.Conversion = 16
place_of keywords.Parameter = 17
place_of keywords.LengthUnit = 18
place_of keywords.AngleUnit = 19
place_of keywords.ScaleUnit = 20
place_of keywords.Unit = 21
place_of keywords.CoordinateSystem = 22
place_of keywords.Axis = 23
place_of keywords.Meridian = 24
place_of keywords.Order = 25
place_of keywords.Usage = 26
place_of keywords.BoundingBox = 27
place_of keywords.VerticalExtent = 28
place_of keywords.Scope = 29
place_of keywords.Area = 30
place_of keywords.Anchor = 31
place_of keywords.Citation = 32
place_of keywords.Uri = 33
place_of keywords.Remark = 34
place_of keywords.Identifier = 35

abbrev pub same_keyword : Keyword → Keyword → Bool
same_keyword a b = place_of a == place_of b

-- the bytes are a spelling with this meaning, in any letter case
abbrev pub IsKeyword : Keyword → List ℕ → Type 0
IsKeyword k bytes = list_any (λ m. same_word m.0 bytes && same_keyword m.1 k) meanings ≡ true

unfoldable pub is_cs_kind : List ℕ → Bool
is_cs_kind bytes = is_some (first_word system_word kinds_listed (map to_ascii_lowercase bytes))

unfoldable pub is_direction : List ℕ → Bool
is_direction bytes = is_some (first_word direction_word directions_listed (map to_ascii_lowercase bytes))
