-- What systems claim about the identifiers of parts.
use Rattle.std.specs.Prelude.{ℕ, true, false, List, [], ◌∷◌, ◌++◌, Option, Some, None, codes}
use Rattle.std.specs.List.{flat_map}
use Rattle.crs_part.specs.declared.text.Text.{Text}
use Rattle.crs_part.specs.declared.identifiers.Ident.{Ident}
use Rattle.crs_part.specs.declared.datums.PrimeMeridian.{PrimeMeridian}
use Rattle.crs_part.specs.declared.datums.GeodeticFrame.{GeodeticFrame}
use Rattle.crs_part.specs.declared.crs.CrsParts.{CrsParts}
use Rattle.crs_value.specs.Keys.{text_of}
use Rattle.crs_names.specs.Nodes.{Part, name_of, of_parts, OfName, OfId, OfUnit, OfEllipsoid, OfMeridian, OfDatum, OfEnsemble, OfVerticalDatum, OfVerticalEnsemble, OfMethod, OfParameter, OfConversion, OfBase, OfGeodetic}
use Rattle.crs_said.specs.Fields.{ended, name_field, maybe_field}
use Rattle.crs_said.specs.Content.{named_said, unit_definition_said, ellipsoid_said, prime_meridian_said, datum_said, geodetic_ensemble_said, geodetic_frame_said, vertical_datum_said, vertical_ensemble_said, conversion_said}
use Rattle.crs_said.specs.Claims.{Said}

-- the code comes first: two words mostly differ there, so that a comparison ends soon
abbrev pub id_word : List ℕ → Ident → List ℕ
id_word kind id = ended (text_of id.code) ++ ended id.authority.bytes ++ kind

abbrev pub part_said : List ℕ → List ℕ → List ℕ
part_said kind name = codes "the " ++ kind ++ codes " \"" ++ name ++ codes "\""

abbrev pub id_said : List ℕ → List ℕ → Ident → List ℕ
id_said kind name id =
    part_said kind name
    ++ codes " has the identifier "
    ++ id.authority.bytes
    ++ codes ":"
    ++ text_of id.code
    ++ codes " and another content than"

-- an identifier of a part has this content
abbrev pub id_claim : List ℕ → List ℕ → List ℕ → Ident → Said
id_claim kind name content id = record { word = id_word kind id; content = content; said = id_said kind name id }

-- the first identifier of a part has this content
abbrev pub id_claims : List ℕ → List ℕ → List ℕ → List Ident → List Said
id_claims kind name content [] = []
id_claims kind name content (id ∷ ids) = id_claim kind name content id ∷ []

-- the identifiers of a part; members, geoid models, axes, coordinate systems and other systems have no claim
abbrev pub ids_of : Part → List Ident
ids_of (OfName x) = []
ids_of (OfId x) = []
ids_of (OfUnit x) = x.ids
ids_of (OfEllipsoid x) = x.ids
ids_of (OfMeridian x) = x.ids
ids_of (OfDatum x) = x.ids
ids_of (OfEnsemble x) = x.ids
ids_of (OfVerticalDatum x) = x.ids
ids_of (OfVerticalEnsemble x) = x.ids
ids_of (OfMethod x) = x.ids
ids_of (OfParameter x) = x.ids
ids_of (OfConversion x) = x.ids
ids_of (OfBase x) = x.ids
ids_of (OfGeodetic x) = x.ids

abbrev pub kind_of : Part → List ℕ
kind_of (OfName x) = []
kind_of (OfId x) = []
kind_of (OfUnit x) = codes "unit"
kind_of (OfEllipsoid x) = codes "ellipsoid"
kind_of (OfMeridian x) = codes "prime meridian"
kind_of (OfDatum x) = codes "datum"
kind_of (OfEnsemble x) = codes "ensemble"
kind_of (OfVerticalDatum x) = codes "datum"
kind_of (OfVerticalEnsemble x) = codes "ensemble"
kind_of (OfMethod x) = codes "method"
kind_of (OfParameter x) = codes "parameter"
kind_of (OfConversion x) = codes "conversion"
kind_of (OfBase x) = codes "base"
kind_of (OfGeodetic x) = codes "base"

-- a base has its name, its datum and its prime meridian
abbrev pub base_content : Text → GeodeticFrame → Option PrimeMeridian → List ℕ
base_content name frame prime = name_field true name.bytes ++ geodetic_frame_said true frame ++ maybe_field (prime_meridian_said true) prime

-- a method or a parameter has its name, folded; a geodetic system counts as a base
abbrev pub content_of : Part → List ℕ
content_of (OfName x) = []
content_of (OfId x) = []
content_of (OfUnit x) = unit_definition_said true x
content_of (OfEllipsoid x) = ellipsoid_said true x
content_of (OfMeridian x) = prime_meridian_said true x
content_of (OfDatum x) = datum_said true x
content_of (OfEnsemble x) = geodetic_ensemble_said true x
content_of (OfVerticalDatum x) = vertical_datum_said true x
content_of (OfVerticalEnsemble x) = vertical_ensemble_said true x
content_of (OfMethod x) = named_said false x
content_of (OfParameter x) = name_field false x.name.bytes
content_of (OfConversion x) = conversion_said true x
content_of (OfBase x) = base_content x.name x.datum x.prime_meridian
content_of (OfGeodetic x) = base_content x.name x.datum x.prime_meridian

abbrev pub named_claims : List ℕ → Option Text → List ℕ → List Ident → List Said
named_claims kind None content ids = []
named_claims kind (Some name) content ids = id_claims kind name.bytes content ids

-- the first identifier of a part has what it says
abbrev pub claims_of : Part → List Said
claims_of part = named_claims (kind_of part) (name_of part) (content_of part) (ids_of part)

-- for each part of a system, or of both components
abbrev pub part_claims : CrsParts → List Said
part_claims crs = flat_map claims_of (of_parts crs [])
