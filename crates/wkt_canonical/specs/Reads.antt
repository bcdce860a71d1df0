-- The front of a text: the canonical text of a value that passes a test, and the rest after it.
use Rattle.std.specs.Prelude.{◌≡◌, ℕ, ◌+◌, ◌<◌, Bool, true, false, not, ◌||◌, None, is_some, is_none, List, [], ◌∷◌, ◌++◌, map, Option}
use Rattle.std.specs.Int.{is_positive, is_negative}
use Rattle.std.specs.List.{list_all, flat_map}
use Rattle.std.specs.Option.{option_map_or}
use Rattle.crs_number.specs.declared.decimals.Decimal.{Decimal}
use Rattle.crs_part.specs.declared.many.NonEmpty.{NonEmpty}
use Rattle.crs_part.specs.declared.systems.SystemKind.{SystemKind}
use Rattle.crs_part.specs.declared.systems.CoordSystem.{CoordSystem}
use Rattle.crs_part.specs.declared.systems.Direction.{Direction}
use Rattle.crs_part.specs.declared.systems.Meridian.{Meridian}
use Rattle.crs_part.specs.declared.systems.Order.{Order}
use Rattle.crs_part.specs.declared.systems.Axis.{Axis}
use Rattle.crs_part.specs.declared.text.Text.{Text}
use Rattle.crs_part.specs.declared.identifiers.Ident.{Ident}
use Rattle.crs_part.specs.declared.identifiers.NumberOrText.{NumberOrText}
use Rattle.crs_part.specs.declared.usages.Usage.{Usage}
use Rattle.crs_part.specs.declared.crs.Single.{Single}
use Rattle.crs_part.specs.declared.crs.CrsParts.{CrsParts}
use Rattle.crs_part.specs.declared.crs.CrsParts.TheVariants as parts
use Rattle.crs_value.specs.Keys.{text_of}
use Rattle.crs_value.specs.Conditions.{is_order, is_north_or_south, unit_kind, unit_fits, may_be_first, may_be_second}
use Rattle.crs_value.specs.Checking.{HasConditions}
use Rattle.crs_value.specs.Units.{usage_units}
use Rattle.wkt_grammar.specs.declared.table.Keyword.{Keyword}
use Rattle.wkt_grammar.specs.declared.table.Keyword.TheVariants as keywords
use Rattle.wkt_grammar.specs.Words.{spelling}
use Rattle.wkt_grammar.specs.Canon.{canon}
use Rattle.crs_part.specs.declared.units.Unit.{Unit}
use Rattle.crs_value.specs.declared.kinds.UnitKind.{UnitKind}
use Rattle.wkt_canonical.specs.declared.identifiers.Identifier.{Identifier}
use Rattle.wkt_canonical.specs.declared.crs.SeenSystem.{SeenSystem}
use Rattle.wkt_canonical.specs.declared.crs.Component.{Component}
use Rattle.wkt_canonical.specs.Seen.{Identifies, IsFirst, IsSeen}
use Rattle.wkt_canonical.specs.Tests.{all_positive, unit_passes, meridian_passes, IsAxis, AxesHold, Holds}
use Rattle.wkt_grammar.specs.Bare.{Bare, bares}
use Rattle.wkt_grammar.specs.Render.{render, render_behind}
use Rattle.wkt_grammar.specs.Runs.{listed}
use Rattle.wkt_grammar.specs.Trees.{one, maybe, joined, unit_tree, system_tree, meridian_tree, order_tree, axis_tree, usage_tree, ident_tree, text_tree, code_tree, value_tree, single_tree}

-- the text of arguments after the first
unfoldable pub behind : List Bare → List ℕ
behind xs = render_behind (bares xs)

-- the keyword of a node and its opening delimiter
abbrev pub beginning : Keyword → List ℕ
beginning k = spelling k ++ 91 ∷ []

-- the same after the comma before an argument
abbrev pub opening : Keyword → List ℕ
opening k = 44 ∷ beginning k

-- the first argument of a node
pub record ReadsFirst {A : Type 0} (test : A → Bool) (tree : A → Bare) (text rest : List ℕ) : Type 0 where
  pub value : A
  pub passes : test value ≡ true
  pub is : text ≡ render (tree value) ++ rest

-- a further argument, after its comma
pub record ReadsOne {A : Type 0} (test : A → Bool) (tree : A → Bare) (text rest : List ℕ) : Type 0 where
  pub value : A
  pub passes : test value ≡ true
  pub is : text ≡ behind (one (tree value)) ++ rest

-- a text with these characters
pub record ReadsText (content text rest : List ℕ) : Type 0 where
  pub value : Text
  pub content_is : value.bytes ≡ content
  pub is : text ≡ render (text_tree value) ++ rest

-- a code after its comma, which counts as these characters
pub record ReadsCode (content text rest : List ℕ) : Type 0 where
  pub value : NumberOrText
  pub content_is : text_of value ≡ content
  pub is : text ≡ behind (one (code_tree value)) ++ rest

-- one or none
pub record ReadsMaybe {A : Type 0} (test : A → Bool) (tree : A → Bare) (text rest : List ℕ) : Type 0 where
  pub value : Option A
  pub passes : option_map_or test value true ≡ true
  pub is : text ≡ behind (maybe tree value) ++ rest

-- any number
pub record ReadsEach {A : Type 0} (test : A → Bool) (tree : A → Bare) (text rest : List ℕ) : Type 0 where
  pub values : List A
  pub passes : list_all test values ≡ true
  pub is : text ≡ behind (map tree values) ++ rest

-- the test that everything passes
abbrev pub any : {A : Type 0} → A → Bool
any value = true

-- a node, after its opening
pub record ReadsInside {A : Type 0} (test : A → Bool) (tree : A → Bare) (keyword : Keyword) (text rest : List ℕ) : Type 0 where
  pub value : A
  pub passes : test value ≡ true
  pub is : opening keyword ++ text ≡ behind (one (tree value)) ++ rest

-- a number above zero, and one not below zero
abbrev pub is_above_zero : Decimal → Bool
is_above_zero d = is_positive d.coefficient

abbrev pub is_not_below_zero : Decimal → Bool
is_not_below_zero d = not (is_negative d.coefficient)

-- a node with any keyword, after its opening
pub record ReadsWithin {A : Type 0} (test : A → Bool) (tree : Keyword → A → Bare) (text rest : List ℕ) : Type 0 where
  pub value : A
  pub passes : test value ≡ true
  pub is : (k : Keyword) → opening k ++ text ≡ behind (one (tree k value)) ++ rest

-- one at least
pub record ReadsSome {A : Type 0} (test : A → Bool) (tree : A → Bare) (text rest : List ℕ) : Type 0 where
  pub value : NonEmpty A
  pub passes : list_all test (listed value) ≡ true
  pub is : text ≡ behind (map tree (listed value)) ++ rest

-- a unit of this kind
pub record ReadsUnit (which : UnitKind) (text rest : List ℕ) : Type 0 where
  pub value : Unit
  pub passes : unit_passes value ≡ true
  pub kind : unit_kind value ≡ which
  pub is : text ≡ behind (one (unit_tree value)) ++ rest

-- a digit
pub record ReadsDigit (n : ℕ) (text rest : List ℕ) : Type 0 where
  pub small : n < 10
  pub is : text ≡ (48 + n) ∷ rest

-- a coordinate system of this kind and dimension
pub record ReadsSystem (kind : SystemKind) (dimension : ℕ) (text rest : List ℕ) : Type 0 where
  pub value : CoordSystem
  pub kind_is : value.kind ≡ kind
  pub dimension_is : value.dimension ≡ dimension
  pub is : text ≡ behind (one (system_tree value)) ++ rest

-- a meridian, which an axis of this direction may have, or none
pub record ReadsMeridian (direction : Direction) (text rest : List ℕ) : Type 0 where
  pub value : Option Meridian
  pub passes : option_map_or meridian_passes value true ≡ true
  pub allowed : (is_none value || is_north_or_south direction) ≡ true
  pub is : text ≡ behind (maybe meridian_tree value) ++ rest

-- the order of the axis at this place, or none
pub record ReadsOrder (k : ℕ) (has_order : Bool) (text rest : List ℕ) : Type 0 where
  pub value : Option Order
  pub ordered : has_order ≡ true → is_order k value ≡ true
  pub unordered : has_order ≡ false → is_none value ≡ true
  pub is : text ≡ behind (maybe order_tree value) ++ rest

-- a unit that fits the axis at this place, or none
pub record ReadsAxisUnit (system : SystemKind) (k : ℕ) (has_unit : Bool) (text rest : List ℕ) : Type 0 where
  pub value : Option Unit
  pub passes : option_map_or unit_passes value true ≡ true
  pub with_unit : has_unit ≡ true → (is_some value ≡ true) × (option_map_or (unit_fits system k) value true ≡ true)
  pub without_unit : has_unit ≡ false → value ≡ None
  pub is : text ≡ behind (maybe unit_tree value) ++ rest

-- the common unit, which fits each of at most three axes if they have none
pub record ReadsCommonUnit (system : SystemKind) (dimension : ℕ) (has_unit : Bool) (text rest : List ℕ) : Type 0 where
  pub value : Option Unit
  pub passes : option_map_or unit_passes value true ≡ true
  pub fits : has_unit ≡ false → (is_some value ≡ true) × ((k : ℕ) → k < 3 → k < dimension → option_map_or (unit_fits system k) value true ≡ true)
  pub is : text ≡ behind (maybe unit_tree value) ++ rest

pub record ReadsAxis (system : SystemKind) (k : ℕ) (has_order has_unit : Bool) (text rest : List ℕ) : Type 0 where
  pub value : Axis
  pub axis : IsAxis system k has_order has_unit value
  pub is : text ≡ behind (one (axis_tree value)) ++ rest

-- the axes of a system and the unit that they have in common
pub record ReadsAxes (system : SystemKind) (dimension : ℕ) (text rest : List ℕ) : Type 0 where
  pub value : NonEmpty Axis
  pub common : Option Unit
  pub hold : AxesHold system dimension (listed value) common
  pub passes : option_map_or unit_passes common true ≡ true
  pub mid : List ℕ
  pub is : text ≡ behind (map axis_tree (listed value)) ++ mid
  pub common_is : mid ≡ behind (maybe unit_tree common) ++ rest

-- ---- identifiers

-- an identifier, after its opening
pub record ReadsIdentifier (seen : Identifier) (text rest : List ℕ) : Type 0 where
  pub value : Ident
  pub identifies : Identifies seen value
  pub is : opening keywords.Identifier ++ text ≡ behind (one (ident_tree value)) ++ rest

-- any number of identifiers, and which is the first
pub record ReadsIdentifiers (first : Option Identifier) (text rest : List ℕ) : Type 0 where
  pub values : List Ident
  pub first_is : IsFirst values first
  pub is : text ≡ behind (map ident_tree values) ++ rest

-- ---- reference systems

-- a reference system of one part that meets all conditions
pub record ReadsSingle (component : Component) (text rest : List ℕ) : Type 0 where
  pub value : Single
  pub holds : Holds value
  pub first : may_be_first value ≡ component.may_be_first
  pub second : may_be_second value ≡ component.may_be_second
  pub seen : IsSeen component.seen (parts.Single value)
  pub is : text ≡ render (single_tree value) ++ rest

-- the usages, whose units pass, the identifiers and the remark at the end of a reference system, and its closing
-- delimiter
pub record ReadsEnd (first : Option Identifier) (text rest : List ℕ) : Type 0 where
  pub usages : List Usage
  pub units_pass : all_positive (flat_map usage_units usages) ≡ true
  pub ids : List Ident
  pub first_is : IsFirst ids first
  pub remark : Option Text
  pub is : text ≡ behind (joined (map usage_tree usages ∷ map ident_tree ids ∷ maybe (value_tree keywords.Remark) remark ∷ [])) ++ 93 ∷ rest

-- the parts of a reference system, which meet all conditions
pub record ReadsWhole (seen : SeenSystem) (text rest : List ℕ) : Type 0 where
  pub value : CrsParts
  pub conditions : HasConditions value
  pub seen_of : IsSeen seen value
  pub is : text ≡ canon value ++ rest

-- the text is the canonical text of parts that meet all conditions, and these are their name and identifier
pub record IsCanonicalOf (seen : SeenSystem) (text : List ℕ) : Type 0 where
  pub value : CrsParts
  pub conditions : HasConditions value
  pub seen_of : IsSeen seen value
  pub is : text ≡ canon value

-- the text is the canonical text of parts that meet all conditions
pub record IsCanonical (text : List ℕ) : Type 0 where
  pub value : CrsParts
  pub conditions : HasConditions value
  pub is : text ≡ canon value
