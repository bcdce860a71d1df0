-- The values built from the rest of a row.
use Rattle.std.specs.Prelude.{◌≡◌, List, [], ◌∷◌, Result, IfOk}
use Rattle.wkt_tree.specs.declared.token.Delimiter.{Delimiter}
use Rattle.wkt_tree.specs.declared.token.TokenKind.TheVariants.{Close}
use Rattle.wkt_tree.specs.Tree.{Piece, Tok, tok}
use Rattle.wkt_grammar.specs.declared.table.Slot.{Slot}
use Rattle.wkt_grammar.specs.declared.table.Often.TheVariants.{Once, AtMostOnce, Any, AtLeastOnce}
use Rattle.wkt_grammar.specs.declared.table.SlotName.TheVariants as slots
use Rattle.wkt_grammar.specs.declared.table.Node.TheVariants as nodes
use Rattle.wkt_grammar.specs.declared.table.Takes.TheVariants as kinds
use Rattle.wkt_grammar.specs.declared.table.Keyword.TheVariants as keywords
use Rattle.wkt_grammar.specs.Bare.{Bare}
use Rattle.wkt_grammar.specs.SecondEdition.{Cuts}
use Rattle.wkt_grammar.specs.Runs.{Fields, nothing, ◌&◌, Runs, One, Maybe, Each, AtLeastOne}
use Rattle.wkt_grammar.specs.Denotes.{DenotesSystem, DenotesAxis, DenotesUnit, DenotesAngleUnit, DenotesPrimeMeridian, DenotesUsage, DenotesIdent, DenotesNamed, DenotesValue}
use Rattle.wkt_build.specs.Reads.{Behind}
use Rattle.wkt_build.specs.declared.ending.Coordinates.{Coordinates}
use Rattle.wkt_build.specs.declared.ending.Ending.{Ending}
use Rattle.wkt_build.specs.declared.ending.Tail.{Tail}
use Rattle.wkt_build.specs.declared.ending.VerticalEnding.{VerticalEnding}
use Rattle.wkt_build.specs.declared.ending.VerticalTail.{VerticalTail}
use Rattle.wkt_build.specs.declared.ending.BaseEnding.{BaseEnding}

-- a closing delimiter, and then the rest
pub record Ends (end rest : List Tok) : Type 0 where
  pub delimiter : Delimiter
  pub piece : Piece
  pub is : end ≡ tok (Close delimiter) piece ∷ rest

-- if the next arguments fit the rest of the row, this was built from them
pub record Reads (row : List Slot) (fields : Fields) (old new : List Tok) : Type 0 where
  pub of : (xs : List Bare) (end rest : List Tok) → Cuts row xs → Behind xs old end → Ends end rest → Runs row fields xs × (new ≡ end)

-- the slots after the unit of the axes
abbrev pub tail_row : List Slot
tail_row =
    (record { name = slots.Usage; takes = kinds.Node keywords.Usage nodes.Usage; often = Any })
    ∷ (record { name = slots.Id; takes = kinds.Node keywords.Identifier nodes.Identifier; often = Any })
    ∷ (record { name = slots.Remark; takes = kinds.Node keywords.Remark nodes.Value; often = AtMostOnce })
    ∷ []

abbrev pub tail_fields : Tail → Fields
tail_fields v = Each DenotesUsage v.usages & Each DenotesIdent v.ids & Maybe (DenotesValue keywords.Remark) v.remark & nothing

-- those of a vertical system
abbrev pub vertical_tail_row : List Slot
vertical_tail_row = (record { name = slots.GeoidModel; takes = kinds.Node keywords.GeoidModel nodes.Named; often = Any }) ∷ tail_row

abbrev pub vertical_tail_fields : VerticalTail → Fields
vertical_tail_fields v =
    Each (DenotesNamed keywords.GeoidModel) v.geoid_models
    & Each DenotesUsage v.usages
    & Each DenotesIdent v.ids
    & Maybe (DenotesValue keywords.Remark) v.remark
    & nothing

-- the slots of the coordinates, and then those of a row
abbrev pub from_coordinates : List Slot → List Slot
from_coordinates row =
    (record { name = slots.Cs; takes = kinds.Node keywords.CoordinateSystem nodes.CoordinateSystem; often = Once })
    ∷ (record { name = slots.Axis; takes = kinds.Node keywords.Axis nodes.Axis; often = AtLeastOnce })
    ∷ (record { name = slots.Unit; takes = kinds.AnyUnit; often = AtMostOnce })
    ∷ row

abbrev pub coordinates_fields : Coordinates → Fields → Fields
coordinates_fields v fields = One DenotesSystem v.system & AtLeastOne DenotesAxis v.axes & Maybe DenotesUnit v.unit & fields

-- the slots that the rows of geodetic and projected systems end with
abbrev pub ending_row : List Slot
ending_row = from_coordinates tail_row

abbrev pub ending_fields : Ending → Fields
ending_fields v =
    One DenotesSystem v.system
    & AtLeastOne DenotesAxis v.axes
    & Maybe DenotesUnit v.unit
    & Each DenotesUsage v.usages
    & Each DenotesIdent v.ids
    & Maybe (DenotesValue keywords.Remark) v.remark
    & nothing

-- the slots that the row of a vertical system ends with
abbrev pub vertical_ending_row : List Slot
vertical_ending_row = from_coordinates vertical_tail_row

abbrev pub vertical_ending_fields : VerticalEnding → Fields
vertical_ending_fields v =
    One DenotesSystem v.system
    & AtLeastOne DenotesAxis v.axes
    & Maybe DenotesUnit v.unit
    & Each (DenotesNamed keywords.GeoidModel) v.geoid_models
    & Each DenotesUsage v.usages
    & Each DenotesIdent v.ids
    & Maybe (DenotesValue keywords.Remark) v.remark
    & nothing

-- the slots of a base system after its datum
abbrev pub base_ending_row : List Slot
base_ending_row =
    (record { name = slots.PrimeMeridian; takes = kinds.Node keywords.PrimeMeridian nodes.PrimeMeridian; often = AtMostOnce })
    ∷ (record { name = slots.Unit; takes = kinds.AngleUnit; often = AtMostOnce })
    ∷ (record { name = slots.Id; takes = kinds.Node keywords.Identifier nodes.Identifier; often = Any })
    ∷ []

abbrev pub base_ending_fields : BaseEnding → Fields
base_ending_fields v = Maybe DenotesPrimeMeridian v.prime_meridian & Maybe DenotesAngleUnit v.unit & Each DenotesIdent v.ids & nothing

-- if the next arguments fit the rest of the row, this is built from them
abbrev pub BuildsRest : {A E : Type 0} → List Slot → (A → Fields) → List Tok → List Tok → Result A E → Type 0
BuildsRest row F old new result = IfOk result (λ v. Reads row (F v) old new)

-- if the rest of a row is read as some value, it is read with these coordinates before it
abbrev pub ReadsBefore : {A : Type 0} → List Slot → (A → Fields) → List Tok → List Tok → Coordinates → Type 0
ReadsBefore row F old mid v = (w : _) (new : List Tok) → Reads row (F w) mid new → Reads (from_coordinates row) (coordinates_fields v (F w)) old new

-- such coordinates are built
abbrev pub BuildsBefore : {A E : Type 0} → List Slot → (A → Fields) → List Tok → List Tok → Result Coordinates E → Type 0
BuildsBefore row F old mid result = IfOk result (ReadsBefore row F old mid)
