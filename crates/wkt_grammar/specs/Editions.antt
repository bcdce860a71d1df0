-- The additions of the second edition.
use Rattle.std.specs.Prelude.{Bool, false, ◌||◌, List, not}
use Rattle.std.specs.List.{filter}
use Rattle.wkt_grammar.specs.Words.{same_keyword}
use Rattle.wkt_grammar.specs.declared.table.Keyword.TheVariants as keywords
use Rattle.wkt_grammar.specs.declared.table.Slot.{Slot}
use Rattle.wkt_grammar.specs.declared.table.Takes.{Takes}
use Rattle.wkt_grammar.specs.declared.table.Takes.TheVariants as kinds

-- a slot for geoid models or for a vertical extent
abbrev pub is_added : Takes → Bool
is_added (kinds.Node keyword node) = same_keyword keyword keywords.GeoidModel || same_keyword keyword keywords.VerticalExtent
is_added _ = false

-- a row without these slots
abbrev pub without_added : List Slot → List Slot
without_added row = filter (λ s. not (is_added s.takes)) row
