-- The canonical text of a value, and the indented one.
use Rattle.std.specs.Prelude.{ℕ, List}
use Rattle.crs_part.specs.declared.crs.CrsParts.{CrsParts}
use Rattle.wkt_grammar.specs.Render.{render, indented}
use Rattle.wkt_grammar.specs.Trees.{parts_tree}

abbrev pub canon : CrsParts → List ℕ
canon v = render (parts_tree v)

abbrev pub pretty : CrsParts → List ℕ
pretty v = indented (parts_tree v)
