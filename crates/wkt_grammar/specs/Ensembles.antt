-- The rows with a slot for an ellipsoid.
use Rattle.std.specs.Prelude.{Bool, false, ◌&&◌, List}
use Rattle.std.specs.List.{list_any}
use Rattle.wkt_grammar.specs.Words.{same_keyword}
use Rattle.wkt_grammar.specs.declared.table.Keyword.TheVariants as keywords
use Rattle.wkt_grammar.specs.declared.table.Slot.{Slot}
use Rattle.wkt_grammar.specs.declared.table.Takes.{Takes}
use Rattle.wkt_grammar.specs.declared.table.Takes.TheVariants as kinds
use Rattle.wkt_grammar.specs.Rows.{is_required}

abbrev pub is_ellipsoid : Takes → Bool
is_ellipsoid (kinds.Node keyword node) = same_keyword keyword keywords.Ellipsoid
is_ellipsoid _ = false

abbrev pub takes_ellipsoid : List Slot → Bool
takes_ellipsoid row = list_any (λ s. is_ellipsoid s.takes) row

abbrev pub needs_ellipsoid : List Slot → Bool
needs_ellipsoid row = list_any (λ s. is_ellipsoid s.takes && is_required s.often) row
