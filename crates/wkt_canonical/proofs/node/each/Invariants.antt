use Rattle.wkt_canonical.specs.Reads.{ReadsEach}
use Rattle.wkt_canonical.proofs.node.each.Given as goal

abbrev pub invariant-loop : goal.invariant-loop
invariant-loop g l = ReadsEach g.T.CanonicalNode.test g.T.CanonicalNode.tree l.fn.text l.rest
