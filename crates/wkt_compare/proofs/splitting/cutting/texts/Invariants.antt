use Rattle.std.proofs.Common.{◌+◌, ◌++◌, ◌≡◌, List, length, map}
use Rattle.wkt_tree.specs.Tree.{Piece}
use Rattle.wkt_compare.specs.Texts.{piece_of, AreTexts, IsCutInto}
use Rattle.wkt_compare.proofs.splitting.cutting.texts.Given as goal

abbrev pub invariant-loop-cut : goal.invariant-loop-cut
invariant-loop-cut l = record {
  left : l.place + length l.rest ≡ length l.file;
  so_far : (more : List Piece) → AreTexts l.place l.rest more → IsCutInto l.file (map piece_of l.cuts.items ++ more);
}

abbrev pub decreases-loop-cut : goal.decreases-loop-cut
decreases-loop-cut l = length l.rest
