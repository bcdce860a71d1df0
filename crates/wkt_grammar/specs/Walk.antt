-- A walk along a row: the rest of the row, and whether its first slot has an argument.
use Rattle.std.specs.Prelude.{◌≡◌, List, [], ◌∷◌, Bool, true, false, ◌&&◌, ◌||◌, not, Option, Some, None, if◌then◌else◌, option_and_then, drop, map}
use Rattle.std.specs.List.{list_all}
use Rattle.wkt_grammar.specs.declared.table.Edition.{Edition}
use Rattle.wkt_grammar.specs.declared.table.Slot.{Slot}
use Rattle.wkt_grammar.specs.declared.table.SlotName.{SlotName}
use Rattle.wkt_grammar.specs.declared.table.Argument.{Argument}
use Rattle.wkt_grammar.specs.declared.table.Argument.TheVariants as arguments
use Rattle.wkt_grammar.specs.declared.table.Often.{Often}
use Rattle.wkt_grammar.specs.declared.table.Often.TheVariants.{Once, AtMostOnce, Any, AtLeastOnce}
use Rattle.wkt_grammar.specs.declared.table.Node.{Node}
use Rattle.wkt_grammar.specs.declared.walk.RowPosition.{RowPosition}
use Rattle.wkt_grammar.specs.Rows.{takes, is_required, row_of}
use Rattle.wkt_grammar.specs.Words.{all_keywords}

abbrev pub is_many : Often → Bool
is_many Once = false
is_many AtMostOnce = false
is_many Any = true
is_many AtLeastOnce = true

-- the rest of the row after it takes the argument; its first slot is the one that took it
abbrev pub next : List Slot → Bool → Argument → Option (List Slot)
next [] filled a = None
next (s ∷ row) filled a =
    if takes s.takes a && (not filled || is_many s.often) then Some (s ∷ row)
    else (if is_required s.often && not filled then None else next row false a)

abbrev pub walk : List Slot → Bool → List Argument → Option (List Slot × Bool)
walk row filled [] = Some (row, filled)
walk row filled (a ∷ args) = option_and_then (λ left. walk left true args) (next row filled a)

-- the first required slot that has none
abbrev pub missing : List Slot → Bool → Option SlotName
missing [] filled = None
missing (s ∷ row) filled = if is_required s.often && not filled then Some s.name else missing row false

-- ---- rows whose slots differ by their keywords

-- whether the row may begin with the argument
abbrev pub may_begin : List Slot → Argument → Bool
may_begin [] a = false
may_begin (s ∷ row) a = takes s.takes a || (not (is_required s.often) && may_begin row a)

abbrev pub all_arguments : List Argument
all_arguments = arguments.Text ∷ arguments.Number ∷ arguments.Count ∷ arguments.CsKind ∷ arguments.Direction ∷ arguments.OtherWord ∷ arguments.OtherNode ∷ map (λ k. arguments.Node k) all_keywords

-- if a slot may be left while it may still take arguments, the rest of the row does not begin with an argument that it takes
abbrev pub is_clear : List Slot → Bool
is_clear [] = true
is_clear (s ∷ row) = list_all (λ a. not (not (is_required s.often && not (is_many s.often)) && (takes s.takes a && may_begin row a))) all_arguments && is_clear row

-- the position in the row of the node in the edition after these arguments
abbrev pub IsAt : Edition → Node → List Argument → RowPosition → Type 0
IsAt edition node args place = walk (row_of edition node) false args ≡ Some (drop place.slot (row_of edition node), place.filled)
