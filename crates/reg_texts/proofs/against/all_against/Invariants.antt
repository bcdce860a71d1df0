use Rattle.std.proofs.Common.{List, map, drop}
use Rattle.wkt_compare.specs.Texts.{piece_of}
use Rattle.reg_op.specs.Rows.{Row}
use Rattle.reg_keys.specs.Index.{IsIndex}
use Rattle.reg_texts.specs.Given.{IsTextAgainst}
use Rattle.reg_texts.proofs.EachLemmas.{Gathers}
use Rattle.reg_texts.proofs.GivenLemmas.{Passes}
use Rattle.reg_texts.proofs.against.all_against.Given as goal

abbrev pub invariant-loop-cut : goal.invariant-loop-cut
invariant-loop-cut l =
    ((rs : List Row) → IsIndex l.index rs → Gathers (IsTextAgainst l.name rs) (map piece_of l.cuts) (map piece_of (drop l.cut-index l.cuts)) l.text.items)
    × Passes (map piece_of l.cuts) (map piece_of (drop l.cut-index l.cuts))
