use Rattle.std.proofs.Common.{◌≡◌, length}
use Rattle.wkt_grammar.specs.Rows.{row_in}
use Rattle.wkt_explain.proofs.wanted.row_in.Given as goal

abbrev pub invariant-loop-slot : goal.invariant-loop-slot
invariant-loop-slot l = row_in l.rest l.keyword ≡ row_in l.row l.keyword

abbrev pub decreases-loop-slot : goal.decreases-loop-slot
decreases-loop-slot l = length l.rest
