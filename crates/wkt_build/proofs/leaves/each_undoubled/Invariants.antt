use Rattle.std.proofs.Common.{◌≡◌, ◌++◌, drop, false}
use Rattle.wkt_grammar.specs.Leaves.{undoubled}
use Rattle.wkt_build.proofs.leaves.each_undoubled.Given as goal

abbrev pub invariant-loop-byte : goal.invariant-loop-byte
invariant-loop-byte l = l.content ++ undoubled l.marked (drop l.byte-index l.bytes) ≡ undoubled false l.bytes
