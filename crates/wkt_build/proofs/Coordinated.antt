-- The value of the slots of the coordinates, before those of any row.
use Rattle.std.proofs.Common.{◌≡◌, true, false, List, ◌∷◌, None}
use Rattle.wkt_tree.specs.Tree.{Tok}
use Rattle.wkt_grammar.specs.declared.table.Slot.{Slot}
use Rattle.wkt_grammar.specs.declared.table.SlotName.TheVariants as slots
use Rattle.wkt_grammar.specs.declared.table.Keyword.TheVariants as keywords
use Rattle.wkt_grammar.specs.declared.table.Node.TheVariants as nodes
use Rattle.wkt_grammar.specs.declared.table.Takes.TheVariants as kinds
use Rattle.wkt_grammar.specs.declared.table.Often.TheVariants.{AtMostOnce, AtLeastOnce}
use Rattle.wkt_grammar.specs.Walk.{is_clear}
use Rattle.wkt_grammar.specs.Runs.{Fields}
use Rattle.wkt_grammar.specs.Denotes.{DenotesSystem, DenotesAxis, DenotesUnit}
use Rattle.wkt_grammar.proofs.Nodes.{axis_law, system_law, unit_law}
use Rattle.wkt_grammar.proofs.NodeRows.{slot}
use Rattle.wkt_build.specs.Reads.{comes}
use Rattle.wkt_build.specs.Rest.{Reads, coordinates_fields, from_coordinates}
use Rattle.wkt_build.specs.declared.ending.Coordinates.{Coordinates}
use Rattle.wkt_build.proofs.Rows.{Made, MadeEach, MadeSome, then_maybe, then_one, then_some}

-- the unit is built from the next argument, if that is a unit; otherwise there is no unit, and no token is taken
pub record MadeUnit (old new : List Tok) (v : Coordinates) : Type 0 where
  pub some : MadeSome kinds.AnyUnit DenotesUnit old new v.unit
  pub left : comes kinds.AnyUnit old ≡ false → new ≡ old
  pub absent : comes kinds.AnyUnit old ≡ false → v.unit ≡ None

pub coordinates_read : (row : List Slot) (fields : Fields) (old one two three end new : List Tok) (v : Coordinates)
    → is_clear (slot slots.Axis (kinds.Node keywords.Axis nodes.Axis) AtLeastOnce ∷ slot slots.Unit kinds.AnyUnit AtMostOnce ∷ row) ≡ true → is_clear (slot slots.Unit kinds.AnyUnit AtMostOnce ∷ row) ≡ true
    → Made (kinds.Node keywords.CoordinateSystem nodes.CoordinateSystem) DenotesSystem old one v.system → Made (kinds.Node keywords.Axis nodes.Axis) DenotesAxis one two v.axes.first → MadeEach (kinds.Node keywords.Axis nodes.Axis) DenotesAxis two three v.axes.others → MadeUnit three end v
    → Reads row fields end new → Reads (from_coordinates row) (coordinates_fields v fields) old new
coordinates_read row fields old one two three end new v axes_clear unit_clear system first others unit r =
    then_one slots.Cs system_law old v.system system
    (then_some slots.Axis axis_law axes_clear one two v.axes first others
    (then_maybe slots.Unit unit_law unit_clear three v.unit unit.some unit.left unit.absent r))
