-- The bytes of a collection of features, and the document of JSON that they are.
use Rattle.std.proofs.Common.{◌≡◌, ℕ, ◌≤◌, Bool, true, false, List, [], ◌∷◌, ◌++◌, codes, Option, Some, None, if◌then◌else◌, refl, sym, ap, append_assoc, arith}
use Rattle.std.specs.List.{flat_map}
use Rattle.json.specs.Token.{Token}
use Rattle.json.specs.Text.{content}
use Rattle.json.specs.Lex.{Lexeme, token, comma, colon, lex}
use Rattle.json.specs.Word.{after_number}
use Rattle.json.specs.Print.{IsNumber}
use Rattle.json.specs.Json.{Json, document, max_depth}
use Rattle.json.specs.Tree.{depth, items_depth}
use Rattle.crs_export.proofs.JsonDocuments.{value_lexemes, items_lexemes, more_items, Lexes, LexesWord, lexes_nothing, lexes_both, lexes_word, lexes_then, lexes_as_word, lexes_as, lexes_from, lexes_null, lexes_text, lexes_number, document_is}
use Rattle.crs_part.specs.declared.text.Text.{Text}
use Rattle.crs_part.specs.declared.usages.BoundingBox.{BoundingBox}
use Rattle.crs_part.specs.declared.usages.Usage.{Usage}
use Rattle.crs_export.specs.declared.title.Title.{Title}
use Rattle.crs_export.specs.declared.markup.TheConstants.{COLLECTION_START, COLLECTION_END, FEATURE_START, BEFORE_ENTRY, BEFORE_AUTHORITY, BEFORE_CODE, BEFORE_NAME, BEFORE_STATUS, BEFORE_SCOPE, BEFORE_AREA, FEATURE_END, POLYGON, POLYGONS, EAST_END, WEST_END}
use Rattle.crs_export.specs.Boxes.{numeral, value_of, is_less, has_west, has_east, position, next_position, polygon, whole, parts}
use Rattle.crs_export.specs.Features.{property, of_entry, area_of, of_usage, with_box, features, after_comma, listed, collection}
use Rattle.crs_export.specs.Document.{list_of, position_value, polygon_value, box_value, feature_of, value_with_box, Described, feature_values, collection_value}
use Rattle.crs_export.proofs.NumeralLemmas.{is_number}

-- ---- constants

open_array : Lexes (91 ∷ []) (token Token.begin_array ∷ [])
unfolding lex
open_array = record { is = λ r. refl }

close_array : Lexes (93 ∷ []) (token Token.end_array ∷ [])
unfolding lex
close_array = record { is = λ r. refl }

a_comma : Lexes (44 ∷ []) (comma ∷ [])
unfolding lex
a_comma = record { is = λ r. refl }

open_ring : Lexes (codes "[[") (token Token.begin_array ∷ token Token.begin_array ∷ [])
unfolding lex
open_ring = record { is = λ r. refl }

close_ring : Lexes (codes "]]") (token Token.end_array ∷ token Token.end_array ∷ [])
unfolding lex
close_ring = record { is = λ r. refl }

-- a name of a member
abbrev named : List ℕ → List Lexeme
named name = token (Token.string name) ∷ colon ∷ []

abbrev next_named : List ℕ → List Lexeme
next_named name = comma ∷ token (Token.string name) ∷ colon ∷ []

polygon_start : Lexes POLYGON.now (token (Token.string (codes "Polygon")) ∷ next_named (codes "coordinates"))
unfolding lex content
polygon_start = record { is = λ r. refl }

polygons_start : Lexes POLYGONS.now (token (Token.string (codes "MultiPolygon")) ∷ comma ∷ token (Token.string (codes "coordinates")) ∷ colon ∷ token Token.begin_array ∷ [])
unfolding lex content
polygons_start = record { is = λ r. refl }

feature_start : Lexes FEATURE_START.now (token Token.begin_object ∷ token (Token.string (codes "type")) ∷ colon ∷ token (Token.string (codes "Feature")) ∷ comma ∷ token (Token.string (codes "geometry")) ∷ colon ∷ token Token.begin_object ∷ named (codes "type"))
unfolding lex content
feature_start = record { is = λ r. refl }

before_entry : Lexes BEFORE_ENTRY.now (token Token.end_object ∷ comma ∷ token (Token.string (codes "properties")) ∷ colon ∷ token Token.begin_object ∷ named (codes "entry"))
unfolding lex content
before_entry = record { is = λ r. refl }

before_authority : Lexes BEFORE_AUTHORITY.now (next_named (codes "authority"))
unfolding lex content
before_authority = record { is = λ r. refl }

before_code : Lexes BEFORE_CODE.now (next_named (codes "code"))
unfolding lex content
before_code = record { is = λ r. refl }

before_name : Lexes BEFORE_NAME.now (next_named (codes "name"))
unfolding lex content
before_name = record { is = λ r. refl }

before_status : Lexes BEFORE_STATUS.now (next_named (codes "status"))
unfolding lex content
before_status = record { is = λ r. refl }

before_scope : Lexes BEFORE_SCOPE.now (next_named (codes "scope"))
unfolding lex content
before_scope = record { is = λ r. refl }

before_area : Lexes BEFORE_AREA.now (next_named (codes "area"))
unfolding lex content
before_area = record { is = λ r. refl }

feature_end : Lexes FEATURE_END.now (token Token.end_object ∷ token Token.end_object ∷ [])
unfolding lex
feature_end = record { is = λ r. refl }

collection_start : Lexes COLLECTION_START.now (token Token.begin_object ∷ token (Token.string (codes "type")) ∷ colon ∷ token (Token.string (codes "FeatureCollection")) ∷ comma ∷ token (Token.string (codes "features")) ∷ colon ∷ token Token.begin_array ∷ [])
unfolding lex content
collection_start = record { is = λ r. refl }

collection_end : Lexes COLLECTION_END.now (token Token.end_array ∷ token Token.end_object ∷ [])
unfolding lex
collection_end = record { is = λ r. refl }

-- ---- geometries

east_is_number : IsNumber EAST_END.now
unfolding after_number
east_is_number = refl

west_is_number : IsNumber WEST_END.now
unfolding after_number
west_is_number = refl

position_lexes : (x y : List ℕ) → IsNumber x → IsNumber y → Lexes (position x y) (value_lexemes (position_value x y))
position_lexes x y nx ny =
    let end : Lexes (y ++ 93 ∷ []) (token (Token.number y) ∷ token Token.end_array ∷ []) = lexes_word 93 refl (lexes_number y ny) close_array in
    let after_x : Lexes (44 ∷ (y ++ 93 ∷ [])) (comma ∷ token (Token.number y) ∷ token Token.end_array ∷ []) = lexes_both a_comma end in
    let inner : Lexes (x ++ (44 ∷ (y ++ 93 ∷ []))) (token (Token.number x) ∷ comma ∷ token (Token.number y) ∷ token Token.end_array ∷ []) = lexes_word 44 refl (lexes_number x nx) after_x in
    lexes_both open_array inner

next_lexes : (x y : List ℕ) → IsNumber x → IsNumber y → Lexes (next_position x y) (comma ∷ value_lexemes (position_value x y))
next_lexes x y nx ny = lexes_both a_comma (position_lexes x y nx ny)

polygon_lexes : (w s e n : List ℕ) → IsNumber w → IsNumber s → IsNumber e → IsNumber n → Lexes (polygon w s e n) (value_lexemes (polygon_value w s e n))
polygon_lexes w s e n iw is ie in_n =
    lexes_as
    (lexes_both (lexes_both (lexes_both (lexes_both (lexes_both (lexes_both open_ring (position_lexes w s iw is)) (next_lexes e s ie is)) (next_lexes e n ie in_n)) (next_lexes w n iw in_n)) (next_lexes w s iw is)) close_ring)
    (value_lexemes (polygon_value w s e n)) refl

box_polygon : (b : BoundingBox) → Lexes (polygon (numeral b.west) (numeral b.south) (numeral b.east) (numeral b.north)) (value_lexemes (polygon_value (numeral b.west) (numeral b.south) (numeral b.east) (numeral b.north)))
box_polygon b = polygon_lexes _ _ _ _ (is_number b.west) (is_number b.south) (is_number b.east) (is_number b.north)

west_polygon : (b : BoundingBox) → Lexes (polygon (numeral b.west) (numeral b.south) EAST_END.now (numeral b.north)) (value_lexemes (polygon_value (numeral b.west) (numeral b.south) (codes "180") (numeral b.north)))
west_polygon b = polygon_lexes _ _ _ _ (is_number b.west) (is_number b.south) east_is_number (is_number b.north)

east_polygon : (b : BoundingBox) → Lexes (polygon WEST_END.now (numeral b.south) (numeral b.east) (numeral b.north)) (value_lexemes (polygon_value (codes "-180") (numeral b.south) (numeral b.east) (numeral b.north)))
east_polygon b = polygon_lexes _ _ _ _ west_is_number (is_number b.south) (is_number b.east) (is_number b.north)

-- what is behind `{"type":` in a geometry, up to its last brace
abbrev geometry_lexemes : BoundingBox → Bool → Bool → Bool → List Lexeme
geometry_lexemes b false has_west has_east =
    token (Token.string (codes "Polygon")) ∷ comma ∷ token (Token.string (codes "coordinates")) ∷ colon ∷ value_lexemes (polygon_value (numeral b.west) (numeral b.south) (numeral b.east) (numeral b.north))
geometry_lexemes b true false false =
    token (Token.string (codes "MultiPolygon")) ∷ comma ∷ token (Token.string (codes "coordinates")) ∷ colon ∷ token Token.begin_array ∷ token Token.end_array ∷ []
geometry_lexemes b true true false =
    token (Token.string (codes "MultiPolygon")) ∷ comma ∷ token (Token.string (codes "coordinates")) ∷ colon ∷ token Token.begin_array
    ∷ (value_lexemes (polygon_value (numeral b.west) (numeral b.south) (codes "180") (numeral b.north)) ++ token Token.end_array ∷ [])
geometry_lexemes b true false true =
    token (Token.string (codes "MultiPolygon")) ∷ comma ∷ token (Token.string (codes "coordinates")) ∷ colon ∷ token Token.begin_array
    ∷ (value_lexemes (polygon_value (codes "-180") (numeral b.south) (numeral b.east) (numeral b.north)) ++ token Token.end_array ∷ [])
geometry_lexemes b true true true =
    token (Token.string (codes "MultiPolygon")) ∷ comma ∷ token (Token.string (codes "coordinates")) ∷ colon ∷ token Token.begin_array
    ∷ (value_lexemes (polygon_value (numeral b.west) (numeral b.south) (codes "180") (numeral b.north))
    ++ (comma ∷ (value_lexemes (polygon_value (codes "-180") (numeral b.south) (numeral b.east) (numeral b.north)) ++ token Token.end_array ∷ [])))

abbrev geometry_bytes : BoundingBox → Bool → Bool → Bool → List ℕ
geometry_bytes b crosses has_west has_east =
    if crosses then parts (numeral b.west) (numeral b.south) (numeral b.east) (numeral b.north) has_west has_east else whole b

geometry_lexes : (b : BoundingBox) (c w e : Bool) → Lexes (geometry_bytes b c w e) (geometry_lexemes b c w e)
geometry_lexes b false w e = lexes_both polygon_start (box_polygon b)
geometry_lexes b true false false = lexes_as (lexes_both (lexes_both (lexes_both (lexes_both polygons_start lexes_nothing) lexes_nothing) lexes_nothing) close_array) (geometry_lexemes b true false false) refl
geometry_lexes b true true false = lexes_as (lexes_both (lexes_both (lexes_both (lexes_both polygons_start (west_polygon b)) lexes_nothing) lexes_nothing) close_array) (geometry_lexemes b true true false) refl
geometry_lexes b true false true = lexes_as (lexes_both (lexes_both (lexes_both (lexes_both polygons_start lexes_nothing) lexes_nothing) (east_polygon b)) close_array) (geometry_lexemes b true false true) refl
geometry_lexes b true true true = lexes_as (lexes_both (lexes_both (lexes_both (lexes_both polygons_start (west_polygon b)) a_comma) (east_polygon b)) close_array) (geometry_lexemes b true true true) refl

-- ---- features

abbrev entry_lexemes : Title → List Lexeme
entry_lexemes t =
    token Token.end_object ∷ comma ∷ token (Token.string (codes "properties")) ∷ colon ∷ token Token.begin_object
    ∷ token (Token.string (codes "entry")) ∷ colon ∷ token (Token.string t.entry.now)
    ∷ comma ∷ token (Token.string (codes "authority")) ∷ colon ∷ token (Token.string t.authority.now)
    ∷ comma ∷ token (Token.string (codes "code")) ∷ colon ∷ token (Token.string t.code.now)
    ∷ comma ∷ token (Token.string (codes "name")) ∷ colon ∷ token (Token.string t.name.now)
    ∷ comma ∷ token (Token.string (codes "status")) ∷ colon ∷ token (Token.string t.status.now) ∷ []

property_lexes : {before : List ℕ} {ls : List Lexeme} → Lexes before ls → (text : List ℕ) → Lexes (property before text) (ls ++ token (Token.string text) ∷ [])
property_lexes before text = lexes_both before (lexes_text text)

entry_lexes : (t : Title) → Lexes (of_entry t) (entry_lexemes t)
entry_lexes t =
    lexes_as
    (lexes_both (lexes_both (lexes_both (lexes_both (property_lexes before_entry t.entry.now) (property_lexes before_authority t.authority.now)) (property_lexes before_code t.code.now)) (property_lexes before_name t.name.now)) (property_lexes before_status t.status.now))
    (entry_lexemes t) refl

abbrev area_lexeme : Option Text → Lexeme
area_lexeme None = token Token.null
area_lexeme (Some area) = token (Token.string area.bytes)

area_lexes : (area : Option Text) → LexesWord (area_of area) (area_lexeme area ∷ [])
area_lexes None = lexes_null
area_lexes (Some area) = lexes_as_word (lexes_text area.bytes)

abbrev usage_lexemes : List ℕ → Option Text → List Lexeme
usage_lexemes scope area =
    comma ∷ token (Token.string (codes "scope")) ∷ colon ∷ token (Token.string scope) ∷ comma ∷ token (Token.string (codes "area")) ∷ colon ∷ area_lexeme area ∷ []

usage_lexes : (u : Usage) → LexesWord (of_usage u) (usage_lexemes u.scope.bytes u.area)
usage_lexes u = lexes_then (lexes_both (lexes_both before_scope (lexes_text u.scope.bytes)) before_area) (area_lexes u.area)

-- the lexemes of a feature are those of its value
feature_lexemes : (t : Title) (scope : List ℕ) (area : Option Text) (b : BoundingBox) (c w e : Bool)
    → (token Token.begin_object ∷ token (Token.string (codes "type")) ∷ colon ∷ token (Token.string (codes "Feature")) ∷ comma ∷ token (Token.string (codes "geometry")) ∷ colon ∷ token Token.begin_object ∷ named (codes "type"))
    ++ geometry_lexemes b c w e ++ entry_lexemes t ++ usage_lexemes scope area ++ (token Token.end_object ∷ token Token.end_object ∷ [])
    ≡ value_lexemes (feature_of t scope area (box_value b c w e))
feature_lexemes t scope None b false w e = refl
feature_lexemes t scope None b true false false = refl
feature_lexemes t scope None b true true false = refl
feature_lexemes t scope None b true false true = refl
feature_lexemes t scope None b true true true = refl
feature_lexemes t scope (Some area) b false w e = refl
feature_lexemes t scope (Some area) b true false false = refl
feature_lexemes t scope (Some area) b true true false = refl
feature_lexemes t scope (Some area) b true false true = refl
feature_lexemes t scope (Some area) b true true true = refl

feature_lexes : (t : Title) (u : Usage) (b : BoundingBox) (c w e : Bool)
    → Lexes (FEATURE_START.now ++ geometry_bytes b c w e ++ of_entry t ++ of_usage u ++ FEATURE_END.now) (value_lexemes (feature_of t u.scope.bytes u.area (box_value b c w e)))
feature_lexes t u b c w e =
    lexes_as (lexes_word 125 refl (lexes_then (lexes_both (lexes_both feature_start (geometry_lexes b c w e)) (entry_lexes t)) (usage_lexes u)) feature_end) (value_lexemes (feature_of t u.scope.bytes u.area (box_value b c w e)))
    (feature_lexemes t u.scope.bytes u.area b c w e)

not_deep : (t : Title) (scope : List ℕ) (area : Option Text) (b : BoundingBox) (c w e : Bool) → depth (feature_of t scope area (box_value b c w e)) ≤ 6
not_deep t scope None b false w e = omega arith
not_deep t scope None b true false false = omega arith
not_deep t scope None b true true false = omega arith
not_deep t scope None b true false true = omega arith
not_deep t scope None b true true true = omega arith
not_deep t scope (Some area) b false w e = omega arith
not_deep t scope (Some area) b true false false = omega arith
not_deep t scope (Some area) b true true false = omega arith
not_deep t scope (Some area) b true false true = omega arith
not_deep t scope (Some area) b true true true = omega arith

-- ---- lists of features

-- texts, each of which is a value
data Are : List (List ℕ) → List Json → Type 0 where
  none : Are [] []
  one : {fs : List (List ℕ)} {js : List Json} (f : List ℕ) (j : Json) → Lexes f (value_lexemes j) → depth j ≤ 6 → Are fs js → Are (f ∷ fs) (j ∷ js)

are_both : {fs gs : List (List ℕ)} {js ks : List Json} → Are fs js → Are gs ks → Are (fs ++ gs) (js ++ ks)
are_both none other = other
are_both (one f j lexes shallow are) other = one f j lexes shallow (are_both are other)

are_with_box : (t : Title) (u : Usage) (b : Option BoundingBox) → Are (with_box t u b) (value_with_box t u b)
are_with_box t u None = none
are_with_box t u (Some b) = one _ _ (feature_lexes t u b (is_less (value_of b.east) (value_of b.west)) (has_west b) (has_east b)) (not_deep t u.scope.bytes u.area b (is_less (value_of b.east) (value_of b.west)) (has_west b) (has_east b)) none

are_features : (t : Title) (us : List Usage) → Are (features t us) (feature_values (record { title = t; usages = us }))
are_features t [] = none
are_features t (u ∷ us) = are_both (are_with_box t u u.bounding_box) (are_features t us)

abbrev all_features : List Described → List (List ℕ)
all_features ds = flat_map (λ (d : Described). features d.title d.usages) ds

are_all : (ds : List Described) → Are (all_features ds) (flat_map feature_values ds)
are_all [] = none
are_all (d ∷ ds) = are_both (are_features d.title d.usages) (are_all ds)

shallow : {fs : List (List ℕ)} {js : List Json} → Are fs js → items_depth (list_of js) ≤ 6
shallow none = omega arith
shallow (one f j lexes low are) = let rest = shallow are in omega (arith, low, rest)

-- the rest of a collection behind some features
more_lexes : {fs : List (List ℕ)} {js : List Json} → Are fs js → Lexes (flat_map after_comma fs ++ COLLECTION_END.now) (more_items (list_of js) ++ token Token.end_object ∷ [])
more_lexes none = collection_end
more_lexes (one {fs = fs} {js = js} f j lexes low are) =
    lexes_as
    (lexes_from (lexes_both (lexes_both a_comma lexes) (more_lexes are)) (flat_map after_comma (f ∷ fs) ++ COLLECTION_END.now) (sym (append_assoc (44 ∷ f) (flat_map after_comma fs) COLLECTION_END.now)))
    (more_items (list_of (j ∷ js)) ++ token Token.end_object ∷ []) (ap (λ l. comma ∷ l) (sym (append_assoc (value_lexemes j) (more_items (list_of js)) (token Token.end_object ∷ []))))

listed_lexes : {fs : List (List ℕ)} {js : List Json} → Are fs js → Lexes (listed fs ++ COLLECTION_END.now) (items_lexemes (list_of js) ++ token Token.end_object ∷ [])
listed_lexes none = collection_end
listed_lexes (one {fs = fs} {js = js} f j lexes low are) =
    lexes_as (lexes_from (lexes_both lexes (more_lexes are)) (listed (f ∷ fs) ++ COLLECTION_END.now) (sym (append_assoc f (flat_map after_comma fs) COLLECTION_END.now)))
    (items_lexemes (list_of (j ∷ js)) ++ token Token.end_object ∷ []) (sym (append_assoc (value_lexemes j) (more_items (list_of js)) (token Token.end_object ∷ [])))

collection_lexes : (ds : List Described) → Lexes (collection (all_features ds)) (value_lexemes (collection_value ds))
collection_lexes ds = lexes_from (lexes_both collection_start (listed_lexes (are_all ds))) (collection (all_features ds)) (sym (append_assoc COLLECTION_START.now (listed (all_features ds)) COLLECTION_END.now))

collection_shallow : (ds : List Described) → depth (collection_value ds) ≤ max_depth
collection_shallow ds = let low = shallow (are_all ds) in omega (arith, low)

-- a collection is its document
pub collection_read : (ds : List Described) → document (collection (flat_map (λ (d : Described). features d.title d.usages) ds)) ≡ Some (collection_value ds)
collection_read ds = document_is (collection (all_features ds)) (collection_value ds) (collection_lexes ds) (collection_shallow ds)
