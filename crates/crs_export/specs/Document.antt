-- A collection of features as a document of JSON (RFC 8259), with the names of GeoJSON (RFC 7946).
use Rattle.std.specs.Prelude.{ℕ, ◌++◌, Bool, List, [], ◌∷◌, codes, Option, Some, None, if◌then◌else◌}
use Rattle.std.specs.List.{flat_map}
use Rattle.json.specs.Json.{Json, null, number, string, array, object, Items, no_items, item, Members, no_members, member}
use Rattle.crs_part.specs.declared.text.Text.{Text}
use Rattle.crs_part.specs.declared.usages.BoundingBox.{BoundingBox}
use Rattle.crs_part.specs.declared.usages.Usage.{Usage}
use Rattle.crs_export.specs.declared.title.Title.{Title}
use Rattle.crs_export.specs.Boxes.{numeral, value_of, is_less, has_west, has_east}

abbrev pub list_of : List Json → Items
list_of [] = no_items
list_of (j ∷ js) = item j (list_of js)

abbrev pub text_member : List ℕ → List ℕ → Members → Members
text_member name text others = member name (string text) others

-- ---- geometries

abbrev pub position_value : List ℕ → List ℕ → Json
position_value longitude latitude = array (item (number longitude) (item (number latitude) no_items))

-- one ring from the south-west, counterclockwise
abbrev pub polygon_value : List ℕ → List ℕ → List ℕ → List ℕ → Json
polygon_value west south east north =
    array (item (array (list_of (position_value west south ∷ position_value east south ∷ position_value east north ∷ position_value west north ∷ position_value west south ∷ []))) no_items)

abbrev pub geometry_value : List ℕ → Json → Json
geometry_value type coordinates = object (text_member (codes "type") type (member (codes "coordinates") coordinates no_members))

abbrev pub whole_value : BoundingBox → Json
whole_value b = geometry_value (codes "Polygon") (polygon_value (numeral b.west) (numeral b.south) (numeral b.east) (numeral b.north))

-- the part from the west end of the box to 180, and the part from -180 to its east end, if they have a width
abbrev pub parts_values : BoundingBox → Bool → Bool → List Json
parts_values b has_west has_east =
    (if has_west then polygon_value (numeral b.west) (numeral b.south) (codes "180") (numeral b.north) ∷ [] else [])
    ++ (if has_east then polygon_value (codes "-180") (numeral b.south) (numeral b.east) (numeral b.north) ∷ [] else [])

abbrev pub cut_value : BoundingBox → Bool → Bool → Json
cut_value b has_west has_east = geometry_value (codes "MultiPolygon") (array (list_of (parts_values b has_west has_east)))

-- a box whose west is greater than its east is cut at 180
abbrev pub box_value : BoundingBox → Bool → Bool → Bool → Json
box_value b crosses has_west has_east = if crosses then cut_value b has_west has_east else whole_value b

-- ---- features

abbrev pub area_value : Option Text → Json
area_value None = null
area_value (Some area) = string area.bytes

abbrev pub properties : Title → List ℕ → Option Text → Members
properties t scope area =
    text_member (codes "entry") t.entry.now (text_member (codes "authority") t.authority.now (text_member (codes "code") t.code.now
    (text_member (codes "name") t.name.now (text_member (codes "status") t.status.now (text_member (codes "scope") scope
    (member (codes "area") (area_value area) no_members))))))

abbrev pub feature_of : Title → List ℕ → Option Text → Json → Json
feature_of t scope area geometry =
    object (text_member (codes "type") (codes "Feature") (member (codes "geometry") geometry (member (codes "properties") (object (properties t scope area)) no_members)))

abbrev pub feature_value : Title → Usage → BoundingBox → Json
feature_value t u b = feature_of t u.scope.bytes u.area (box_value b (is_less (value_of b.east) (value_of b.west)) (has_west b) (has_east b))

abbrev pub value_with_box : Title → Usage → Option BoundingBox → List Json
value_with_box t u None = []
value_with_box t u (Some b) = feature_value t u b ∷ []

-- an entry's title, and the usages of its reference system
pub record Described : Type 0 where
  pub title : Title
  pub usages : List Usage

-- a feature for each usage with a bounding box
abbrev pub feature_values : Described → List Json
feature_values d = flat_map (λ (u : Usage). value_with_box d.title u u.bounding_box) d.usages

abbrev pub collection_value : List Described → Json
collection_value ds =
    object (text_member (codes "type") (codes "FeatureCollection") (member (codes "features") (array (list_of (flat_map feature_values ds))) no_members))
