-- The canonical tree of each value is well-formed: its leaves are tokens, and it is not too deep. One line for each slot.
use Rattle.std.proofs.Common.{◌≡◌, ℕ, zero, suc, ◌≤◌, true, List, [], ◌∷◌, ◌++◌, map, Option, Some, None, refl, arith}
use Rattle.std.specs.Prelude.{max}
use Rattle.crs_part.specs.declared.many.NonEmpty.{NonEmpty}
use Rattle.crs_part.specs.declared.identifiers.NumberOrText.TheVariants as code
use Rattle.crs_part.specs.declared.systems.Direction.TheVariants as to
use Rattle.crs_part.specs.declared.systems.SystemKind.TheVariants as kind
use Rattle.crs_part.specs.declared.units.Unit.TheVariants as unit
use Rattle.crs_part.specs.declared.units.LengthUnit.TheVariants as length_unit
use Rattle.crs_part.specs.declared.units.AngleUnit.TheVariants as angle_unit
use Rattle.crs_part.specs.declared.datums.GeodeticFrame.TheVariants as geodetic_frame
use Rattle.crs_part.specs.declared.datums.VerticalFrame.TheVariants as vertical_frame
use Rattle.crs_part.specs.declared.crs.GeodeticKind.{GeodeticKind}
use Rattle.crs_part.specs.declared.crs.GeodeticKind.TheVariants as geodetic_kind
use Rattle.crs_part.specs.declared.crs.Single.TheVariants as single
use Rattle.crs_part.specs.declared.crs.CrsParts.{CrsParts}
use Rattle.crs_part.specs.declared.crs.CrsParts.TheVariants as parts
use Rattle.wkt_grammar.specs.declared.table.Keyword.{Keyword}
use Rattle.wkt_grammar.specs.declared.table.Keyword.TheVariants as keywords
use Rattle.wkt_grammar.specs.Words.{spelling}
use Rattle.wkt_grammar.specs.Bare.{Bare, bares, node}
use Rattle.wkt_write.specs.WellFormed.{WellFormed, AllWellFormed, is_name}
use Rattle.wkt_write.proofs.Tokens.{word_token, text_is, number_token, count_token}
use Rattle.wkt_grammar.specs.Runs.{listed}
use Rattle.crs_part.specs.Words.{system_word, direction_word}
use Rattle.wkt_grammar.specs.Denotes.{geodetic_keyword, base_keyword}
use Rattle.wkt_grammar.specs.Trees as trees
use Rattle.wkt_grammar.proofs.Leaves.{Small}

-- if at least h delimiters may be open, the trees of all values are well-formed
abbrev Goods : {A : Type 0} → ℕ → (A → Bare) → Type 0
Goods {A} h tree = (n : ℕ) → h ≤ n → (v : A) → WellFormed n (tree v)

-- the arguments of a slot are well-formed if at least h delimiters may be open
record Run (A : Type 0) (h : ℕ) : Type 0 where
  run : A → List Bare
  good : (n : ℕ) → h ≤ n → (v : A) → AllWellFormed n (bares (run v))

each_good : {A : Type 0} (h : ℕ) (tree : A → Bare) → Goods h tree → (n : ℕ) → h ≤ n → (vs : List A) → AllWellFormed n (bares (map tree vs))
each_good h tree g n l [] = tt
each_good h tree g n l (v ∷ vs) = (g n l v, each_good h tree g n l vs)

maybe_good : {A : Type 0} (h : ℕ) (tree : A → Bare) → Goods h tree → (n : ℕ) → h ≤ n → (o : Option A) → AllWellFormed n (bares (trees.maybe tree o))
maybe_good h tree g n l None = tt
maybe_good h tree g n l (Some v) = (g n l v, tt)

abbrev one : {A : Type 0} (h : ℕ) (tree : A → Bare) → Goods h tree → Run A h
one h tree g = record { run = λ v. tree v ∷ []; good = λ n l v. (g n l v, tt) }

abbrev maybe : {A : Type 0} (h : ℕ) (tree : A → Bare) → Goods h tree → Run (Option A) h
maybe h tree g = record { run = trees.maybe tree; good = maybe_good h tree g }

abbrev each : {A : Type 0} (h : ℕ) (tree : A → Bare) → Goods h tree → Run (List A) h
each h tree g = record { run = map tree; good = each_good h tree g }

abbrev some : {A : Type 0} (h : ℕ) (tree : A → Bare) → Goods h tree → Run (NonEmpty A) h
some h tree g = record { run = λ v. map tree (listed v); good = λ n l v. each_good h tree g n l (listed v) }

join : (n : ℕ) (xs ys : List Bare) → AllWellFormed n (bares xs) → AllWellFormed n (bares ys) → AllWellFormed n (bares (xs ++ ys))
join n [] ys g h = h
join n (x ∷ xs) ys g h = (g.0, join n xs ys g.1 h)

abbrev then : {A B : Type 0} (h k : ℕ) → Run A h → Run B k → Run (A × B) (max h k)
then h k r s = record { run = λ p. r.run p.0 ++ s.run p.1; good = λ n l p. join n (r.run p.0) (s.run p.1) (r.good n (omega (arith, l)) p.0) (s.good n (omega (arith, l)) p.1) }

abbrev none : Run (Unit {0}) 0
none = record { run = λ u. []; good = λ n l u. tt }

branch_good : {A B C : Type 0} (h k : ℕ) (keyword : A → Keyword) (tree : B → Bare) (first : A → B) (others : A → C) → ((v : A) → is_name (spelling (keyword v)) ≡ true) → Goods h tree → (r : Run C k)
    → Goods (suc (max h k)) (λ v. node (spelling (keyword v)) (bares (tree (first v) ∷ r.run (others v))))
branch_good h k keyword tree first others w g r zero l v = absurd (omega (arith, l))
branch_good h k keyword tree first others w g r (suc n) l v = (word_token (spelling (keyword v)) (w v), (g n (omega (arith, l)) (first v), r.good n (omega (arith, l)) (others v)))

-- ---- leaves

text_good : Goods 0 trees.text_tree
text_good n l v = text_is v

number_good : Goods 0 trees.number_tree
number_good n l v = number_token v

count_good : Goods 0 (λ (c : Small). trees.count_tree c.value)
count_good n l c = count_token c.value c.small

code_good : Goods 0 trees.code_tree
code_good n l (code.Number d) = number_token d
code_good n l (code.Text t) = text_is t

kind_good : Goods 0 trees.kind_tree
kind_good n l kind.Ellipsoidal = word_token (system_word kind.Ellipsoidal) refl
kind_good n l kind.Cartesian = word_token (system_word kind.Cartesian) refl
kind_good n l kind.Spherical = word_token (system_word kind.Spherical) refl
kind_good n l kind.Vertical = word_token (system_word kind.Vertical) refl

direction_good : Goods 0 trees.direction_tree
direction_good n l to.North = word_token (direction_word to.North) refl
direction_good n l to.NorthNorthEast = word_token (direction_word to.NorthNorthEast) refl
direction_good n l to.NorthEast = word_token (direction_word to.NorthEast) refl
direction_good n l to.EastNorthEast = word_token (direction_word to.EastNorthEast) refl
direction_good n l to.East = word_token (direction_word to.East) refl
direction_good n l to.EastSouthEast = word_token (direction_word to.EastSouthEast) refl
direction_good n l to.SouthEast = word_token (direction_word to.SouthEast) refl
direction_good n l to.SouthSouthEast = word_token (direction_word to.SouthSouthEast) refl
direction_good n l to.South = word_token (direction_word to.South) refl
direction_good n l to.SouthSouthWest = word_token (direction_word to.SouthSouthWest) refl
direction_good n l to.SouthWest = word_token (direction_word to.SouthWest) refl
direction_good n l to.WestSouthWest = word_token (direction_word to.WestSouthWest) refl
direction_good n l to.West = word_token (direction_word to.West) refl
direction_good n l to.WestNorthWest = word_token (direction_word to.WestNorthWest) refl
direction_good n l to.NorthWest = word_token (direction_word to.NorthWest) refl
direction_good n l to.NorthNorthWest = word_token (direction_word to.NorthNorthWest) refl
direction_good n l to.GeocentricX = word_token (direction_word to.GeocentricX) refl
direction_good n l to.GeocentricY = word_token (direction_word to.GeocentricY) refl
direction_good n l to.GeocentricZ = word_token (direction_word to.GeocentricZ) refl
direction_good n l to.Up = word_token (direction_word to.Up) refl
direction_good n l to.Down = word_token (direction_word to.Down) refl

-- ---- nodes

scope_good : Goods 1 (trees.value_tree keywords.Scope)
scope_good = branch_good 0 0 (λ v. keywords.Scope) trees.text_tree (λ v. v) (λ v. tt) (λ v. refl) text_good
    none

area_good : Goods 1 (trees.value_tree keywords.Area)
area_good = branch_good 0 0 (λ v. keywords.Area) trees.text_tree (λ v. v) (λ v. tt) (λ v. refl) text_good
    none

anchor_good : Goods 1 (trees.value_tree keywords.Anchor)
anchor_good = branch_good 0 0 (λ v. keywords.Anchor) trees.text_tree (λ v. v) (λ v. tt) (λ v. refl) text_good
    none

citation_good : Goods 1 (trees.value_tree keywords.Citation)
citation_good = branch_good 0 0 (λ v. keywords.Citation) trees.text_tree (λ v. v) (λ v. tt) (λ v. refl) text_good
    none

uri_good : Goods 1 (trees.value_tree keywords.Uri)
uri_good = branch_good 0 0 (λ v. keywords.Uri) trees.text_tree (λ v. v) (λ v. tt) (λ v. refl) text_good
    none

remark_good : Goods 1 (trees.value_tree keywords.Remark)
remark_good = branch_good 0 0 (λ v. keywords.Remark) trees.text_tree (λ v. v) (λ v. tt) (λ v. refl) text_good
    none

ident_good : Goods 2 trees.ident_tree
ident_good = branch_good 0 1 (λ v. keywords.Identifier) trees.text_tree (λ v. v.authority) (λ v. (v.code, (v.version, (v.citation, (v.uri, tt))))) (λ v. refl) text_good
    (then 0 1 (one 0 trees.code_tree code_good) (then 0 1 (maybe 0 trees.code_tree code_good) (then 1 1 (maybe 1 (trees.value_tree keywords.Citation) citation_good) (then 1 0 (maybe 1 (trees.value_tree keywords.Uri) uri_good) none))))

member_good : Goods 3 (trees.named_tree keywords.Member)
member_good = branch_good 0 2 (λ v. keywords.Member) trees.text_tree (λ v. v.name) (λ v. (v.ids, tt)) (λ v. refl) text_good
    (then 2 0 (each 2 trees.ident_tree ident_good) none)

method_good : Goods 3 (trees.named_tree keywords.Method)
method_good = branch_good 0 2 (λ v. keywords.Method) trees.text_tree (λ v. v.name) (λ v. (v.ids, tt)) (λ v. refl) text_good
    (then 2 0 (each 2 trees.ident_tree ident_good) none)

geoid_model_good : Goods 3 (trees.named_tree keywords.GeoidModel)
geoid_model_good = branch_good 0 2 (λ v. keywords.GeoidModel) trees.text_tree (λ v. v.name) (λ v. (v.ids, tt)) (λ v. refl) text_good
    (then 2 0 (each 2 trees.ident_tree ident_good) none)

length_of_good : Goods 3 (trees.unit_of_tree keywords.LengthUnit)
length_of_good = branch_good 0 2 (λ v. keywords.LengthUnit) trees.text_tree (λ v. v.name) (λ v. (v.factor, (v.ids, tt))) (λ v. refl) text_good
    (then 0 2 (one 0 trees.number_tree number_good) (then 2 0 (each 2 trees.ident_tree ident_good) none))

angle_of_good : Goods 3 (trees.unit_of_tree keywords.AngleUnit)
angle_of_good = branch_good 0 2 (λ v. keywords.AngleUnit) trees.text_tree (λ v. v.name) (λ v. (v.factor, (v.ids, tt))) (λ v. refl) text_good
    (then 0 2 (one 0 trees.number_tree number_good) (then 2 0 (each 2 trees.ident_tree ident_good) none))

scale_of_good : Goods 3 (trees.unit_of_tree keywords.ScaleUnit)
scale_of_good = branch_good 0 2 (λ v. keywords.ScaleUnit) trees.text_tree (λ v. v.name) (λ v. (v.factor, (v.ids, tt))) (λ v. refl) text_good
    (then 0 2 (one 0 trees.number_tree number_good) (then 2 0 (each 2 trees.ident_tree ident_good) none))

generic_of_good : Goods 3 (trees.unit_of_tree keywords.Unit)
generic_of_good = branch_good 0 2 (λ v. keywords.Unit) trees.text_tree (λ v. v.name) (λ v. (v.factor, (v.ids, tt))) (λ v. refl) text_good
    (then 0 2 (one 0 trees.number_tree number_good) (then 2 0 (each 2 trees.ident_tree ident_good) none))

unit_good : Goods 3 trees.unit_tree
unit_good n l (unit.Length v) = length_of_good n (omega (arith, l)) v
unit_good n l (unit.Angle v) = angle_of_good n (omega (arith, l)) v
unit_good n l (unit.Scale v) = scale_of_good n (omega (arith, l)) v
unit_good n l (unit.Generic v) = generic_of_good n (omega (arith, l)) v

length_unit_good : Goods 3 trees.length_unit_tree
length_unit_good n l (length_unit.Length v) = length_of_good n (omega (arith, l)) v
length_unit_good n l (length_unit.Generic v) = generic_of_good n (omega (arith, l)) v

angle_unit_good : Goods 3 trees.angle_unit_tree
angle_unit_good n l (angle_unit.Angle v) = angle_of_good n (omega (arith, l)) v
angle_unit_good n l (angle_unit.Generic v) = generic_of_good n (omega (arith, l)) v

bounding_box_good : Goods 1 trees.bounding_box_tree
bounding_box_good = branch_good 0 0 (λ v. keywords.BoundingBox) trees.number_tree (λ v. v.south) (λ v. (v.west, (v.north, (v.east, tt)))) (λ v. refl) number_good
    (then 0 0 (one 0 trees.number_tree number_good) (then 0 0 (one 0 trees.number_tree number_good) (then 0 0 (one 0 trees.number_tree number_good) none)))

vertical_extent_good : Goods 4 trees.vertical_extent_tree
vertical_extent_good = branch_good 0 3 (λ v. keywords.VerticalExtent) trees.number_tree (λ v. v.low) (λ v. (v.high, (v.unit, tt))) (λ v. refl) number_good
    (then 0 3 (one 0 trees.number_tree number_good) (then 3 0 (maybe 3 trees.length_unit_tree length_unit_good) none))

usage_good : Goods 5 trees.usage_tree
usage_good = branch_good 1 4 (λ v. keywords.Usage) (trees.value_tree keywords.Scope) (λ v. v.scope) (λ v. (v.area, (v.bounding_box, (v.vertical_extent, tt)))) (λ v. refl) scope_good
    (then 1 4 (maybe 1 (trees.value_tree keywords.Area) area_good) (then 1 4 (maybe 1 trees.bounding_box_tree bounding_box_good) (then 4 0 (maybe 4 trees.vertical_extent_tree vertical_extent_good) none)))

ellipsoid_good : Goods 4 trees.ellipsoid_tree
ellipsoid_good = branch_good 0 3 (λ v. keywords.Ellipsoid) trees.text_tree (λ v. v.name) (λ v. (v.radius, (v.flattening, (v.unit, (v.ids, tt))))) (λ v. refl) text_good
    (then 0 3 (one 0 trees.number_tree number_good) (then 0 3 (one 0 trees.number_tree number_good) (then 3 2 (maybe 3 trees.length_unit_tree length_unit_good) (then 2 0 (each 2 trees.ident_tree ident_good) none))))

prime_meridian_good : Goods 4 trees.prime_meridian_tree
prime_meridian_good = branch_good 0 3 (λ v. keywords.PrimeMeridian) trees.text_tree (λ v. v.name) (λ v. (v.longitude, (v.unit, (v.ids, tt)))) (λ v. refl) text_good
    (then 0 3 (one 0 trees.number_tree number_good) (then 3 2 (maybe 3 trees.angle_unit_tree angle_unit_good) (then 2 0 (each 2 trees.ident_tree ident_good) none)))

accuracy_good : Goods 1 trees.accuracy_tree
accuracy_good = branch_good 0 0 (λ v. keywords.EnsembleAccuracy) trees.number_tree (λ v. v) (λ v. tt) (λ v. refl) number_good
    none

datum_good : Goods 5 trees.datum_tree
datum_good = branch_good 0 4 (λ v. keywords.Datum) trees.text_tree (λ v. v.name) (λ v. (v.ellipsoid, (v.anchor, (v.ids, tt)))) (λ v. refl) text_good
    (then 4 2 (one 4 trees.ellipsoid_tree ellipsoid_good) (then 1 2 (maybe 1 (trees.value_tree keywords.Anchor) anchor_good) (then 2 0 (each 2 trees.ident_tree ident_good) none)))

vertical_datum_good : Goods 3 trees.vertical_datum_tree
vertical_datum_good = branch_good 0 2 (λ v. keywords.VerticalDatum) trees.text_tree (λ v. v.name) (λ v. (v.anchor, (v.ids, tt))) (λ v. refl) text_good
    (then 1 2 (maybe 1 (trees.value_tree keywords.Anchor) anchor_good) (then 2 0 (each 2 trees.ident_tree ident_good) none))

geodetic_ensemble_good : Goods 5 trees.geodetic_ensemble_tree
geodetic_ensemble_good = branch_good 0 4 (λ v. keywords.Ensemble) trees.text_tree (λ v. v.name) (λ v. (v.members, (v.ellipsoid, (v.accuracy, (v.ids, tt))))) (λ v. refl) text_good
    (then 3 4 (some 3 (trees.named_tree keywords.Member) member_good) (then 4 2 (one 4 trees.ellipsoid_tree ellipsoid_good) (then 1 2 (one 1 trees.accuracy_tree accuracy_good) (then 2 0 (each 2 trees.ident_tree ident_good) none))))

vertical_ensemble_good : Goods 4 trees.vertical_ensemble_tree
vertical_ensemble_good = branch_good 0 3 (λ v. keywords.Ensemble) trees.text_tree (λ v. v.name) (λ v. (v.members, (v.accuracy, (v.ids, tt)))) (λ v. refl) text_good
    (then 3 2 (some 3 (trees.named_tree keywords.Member) member_good) (then 1 2 (one 1 trees.accuracy_tree accuracy_good) (then 2 0 (each 2 trees.ident_tree ident_good) none)))

geodetic_frame_good : Goods 5 trees.geodetic_frame_tree
geodetic_frame_good n l (geodetic_frame.Datum v) = datum_good n (omega (arith, l)) v
geodetic_frame_good n l (geodetic_frame.Ensemble v) = geodetic_ensemble_good n (omega (arith, l)) v

vertical_frame_good : Goods 4 trees.vertical_frame_tree
vertical_frame_good n l (vertical_frame.Datum v) = vertical_datum_good n (omega (arith, l)) v
vertical_frame_good n l (vertical_frame.Ensemble v) = vertical_ensemble_good n (omega (arith, l)) v

system_good : Goods 3 trees.system_tree
system_good = branch_good 0 2 (λ v. keywords.CoordinateSystem) trees.kind_tree (λ v. v.kind) (λ v. ((record { value = v.dimension; small = v.count }), (v.ids, tt))) (λ v. refl) kind_good
    (then 0 2 (one 0 (λ (c : Small). trees.count_tree c.value) count_good) (then 2 0 (each 2 trees.ident_tree ident_good) none))

meridian_good : Goods 4 trees.meridian_tree
meridian_good = branch_good 0 3 (λ v. keywords.Meridian) trees.number_tree (λ v. v.longitude) (λ v. (v.unit, tt)) (λ v. refl) number_good
    (then 3 0 (one 3 trees.angle_unit_tree angle_unit_good) none)

order_good : Goods 1 trees.order_tree
order_good = branch_good 0 0 (λ v. keywords.Order) (λ (c : Small). trees.count_tree c.value) (λ v. (record { value = v.position; small = v.count })) (λ v. tt) (λ v. refl) count_good
    none

axis_good : Goods 5 trees.axis_tree
axis_good = branch_good 0 4 (λ v. keywords.Axis) trees.text_tree (λ v. v.name) (λ v. (v.direction, (v.meridian, (v.order, (v.unit, (v.ids, tt)))))) (λ v. refl) text_good
    (then 0 4 (one 0 trees.direction_tree direction_good) (then 4 3 (maybe 4 trees.meridian_tree meridian_good) (then 1 3 (maybe 1 trees.order_tree order_good) (then 3 2 (maybe 3 trees.unit_tree unit_good) (then 2 0 (each 2 trees.ident_tree ident_good) none)))))

parameter_good : Goods 4 trees.parameter_tree
parameter_good = branch_good 0 3 (λ v. keywords.Parameter) trees.text_tree (λ v. v.name) (λ v. (v.value, (v.unit, (v.ids, tt)))) (λ v. refl) text_good
    (then 0 3 (one 0 trees.number_tree number_good) (then 3 2 (maybe 3 trees.unit_tree unit_good) (then 2 0 (each 2 trees.ident_tree ident_good) none)))

conversion_good : Goods 5 trees.conversion_tree
conversion_good = branch_good 0 4 (λ v. keywords.Conversion) trees.text_tree (λ v. v.name) (λ v. (v.method, (v.parameters, (v.ids, tt)))) (λ v. refl) text_good
    (then 3 4 (one 3 (trees.named_tree keywords.Method) method_good) (then 4 2 (each 4 trees.parameter_tree parameter_good) (then 2 0 (each 2 trees.ident_tree ident_good) none)))

base_is_name : (v : GeodeticKind) → is_name (spelling (base_keyword v)) ≡ true
base_is_name geodetic_kind.Geodetic = refl
base_is_name geodetic_kind.Geographic = refl

geodetic_is_name : (v : GeodeticKind) → is_name (spelling (geodetic_keyword v)) ≡ true
geodetic_is_name geodetic_kind.Geodetic = refl
geodetic_is_name geodetic_kind.Geographic = refl

base_good : Goods 6 trees.base_tree
base_good = branch_good 0 5 (λ v. base_keyword v.kind) trees.text_tree (λ v. v.name) (λ v. (v.datum, (v.prime_meridian, (v.unit, (v.ids, tt))))) (λ v. base_is_name v.kind) text_good
    (then 5 4 (one 5 trees.geodetic_frame_tree geodetic_frame_good) (then 4 3 (maybe 4 trees.prime_meridian_tree prime_meridian_good) (then 3 2 (maybe 3 trees.angle_unit_tree angle_unit_good) (then 2 0 (each 2 trees.ident_tree ident_good) none))))

geodetic_good : Goods 6 trees.geodetic_tree
geodetic_good = branch_good 0 5 (λ v. geodetic_keyword v.kind) trees.text_tree (λ v. v.name) (λ v. (v.datum, (v.prime_meridian, (v.system, (v.axes, (v.unit, (v.usages, (v.ids, (v.remark, tt))))))))) (λ v. geodetic_is_name v.kind) text_good
    (then 5 5 (one 5 trees.geodetic_frame_tree geodetic_frame_good) (then 4 5 (maybe 4 trees.prime_meridian_tree prime_meridian_good) (then 3 5 (one 3 trees.system_tree system_good) (then 5 5 (some 5 trees.axis_tree axis_good) (then 3 5 (maybe 3 trees.unit_tree unit_good) (then 5 2 (each 5 trees.usage_tree usage_good) (then 2 1 (each 2 trees.ident_tree ident_good) (then 1 0 (maybe 1 (trees.value_tree keywords.Remark) remark_good) none))))))))

projected_good : Goods 7 trees.projected_tree
projected_good = branch_good 0 6 (λ v. keywords.ProjectedCrs) trees.text_tree (λ v. v.name) (λ v. (v.base, (v.conversion, (v.system, (v.axes, (v.unit, (v.usages, (v.ids, (v.remark, tt))))))))) (λ v. refl) text_good
    (then 6 5 (one 6 trees.base_tree base_good) (then 5 5 (one 5 trees.conversion_tree conversion_good) (then 3 5 (one 3 trees.system_tree system_good) (then 5 5 (some 5 trees.axis_tree axis_good) (then 3 5 (maybe 3 trees.unit_tree unit_good) (then 5 2 (each 5 trees.usage_tree usage_good) (then 2 1 (each 2 trees.ident_tree ident_good) (then 1 0 (maybe 1 (trees.value_tree keywords.Remark) remark_good) none))))))))

vertical_good : Goods 6 trees.vertical_tree
vertical_good = branch_good 0 5 (λ v. keywords.VerticalCrs) trees.text_tree (λ v. v.name) (λ v. (v.datum, (v.system, (v.axes, (v.unit, (v.geoid_models, (v.usages, (v.ids, (v.remark, tt))))))))) (λ v. refl) text_good
    (then 4 5 (one 4 trees.vertical_frame_tree vertical_frame_good) (then 3 5 (one 3 trees.system_tree system_good) (then 5 5 (some 5 trees.axis_tree axis_good) (then 3 5 (maybe 3 trees.unit_tree unit_good) (then 3 5 (each 3 (trees.named_tree keywords.GeoidModel) geoid_model_good) (then 5 2 (each 5 trees.usage_tree usage_good) (then 2 1 (each 2 trees.ident_tree ident_good) (then 1 0 (maybe 1 (trees.value_tree keywords.Remark) remark_good) none))))))))

component_good : Goods 7 trees.single_tree
component_good n l (single.Geodetic v) = geodetic_good n (omega (arith, l)) v
component_good n l (single.Projected v) = projected_good n (omega (arith, l)) v
component_good n l (single.Vertical v) = vertical_good n (omega (arith, l)) v

compound_good : Goods 8 trees.compound_tree
compound_good = branch_good 0 7 (λ v. keywords.CompoundCrs) trees.text_tree (λ v. v.name) (λ v. (v.first, (v.second, (v.usages, (v.ids, (v.remark, tt)))))) (λ v. refl) text_good
    (then 7 7 (one 7 trees.single_tree component_good) (then 7 5 (one 7 trees.single_tree component_good) (then 5 2 (each 5 trees.usage_tree usage_good) (then 2 1 (each 2 trees.ident_tree ident_good) (then 1 0 (maybe 1 (trees.value_tree keywords.Remark) remark_good) none)))))

parts_good : Goods 8 trees.parts_tree
parts_good n l (parts.Single v) = component_good n (omega (arith, l)) v
parts_good n l (parts.Compound v) = compound_good n (omega (arith, l)) v

-- the canonical tree of each value is well-formed
pub canonical_good : (v : CrsParts) → WellFormed 16 (trees.parts_tree v)
canonical_good v = parts_good 16 (omega arith) v
