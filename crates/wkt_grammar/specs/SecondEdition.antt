-- The trees that fit the rows of the second edition of the grammar, the one in which values are read and written.
use Rattle.std.specs.Prelude.{List}
use Rattle.wkt_grammar.specs.declared.table.Edition.TheVariants as editions
use Rattle.wkt_grammar.specs.declared.table.Slot.{Slot}
use Rattle.wkt_grammar.specs.declared.table.Node.{Node}
use Rattle.wkt_grammar.specs.declared.table.Takes.{Takes}
use Rattle.wkt_grammar.specs.Rows as rows
use Rattle.wkt_grammar.specs.Bare.{Bare, Bares}
use Rattle.wkt_grammar.specs.Fitted as fitted

abbrev pub row_of : Node → List Slot
row_of = rows.row_of editions.Second

abbrev pub Fitted : Node → Bares → Type 0
Fitted = fitted.Fitted editions.Second

abbrev pub Fitting : Takes → Bare → Type 0
Fitting = fitted.Fitting editions.Second

abbrev pub AllFitting : Takes → List Bare → Type 0
AllFitting = fitted.AllFitting editions.Second

abbrev pub Cuts : List Slot → List Bare → Type 0
Cuts = fitted.Cuts editions.Second
