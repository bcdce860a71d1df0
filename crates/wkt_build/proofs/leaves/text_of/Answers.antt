use Rattle.std.proofs.Common.{refl}
use Rattle.wkt_build.proofs.LeafLemmas.{text_there}
use Rattle.wkt_build.proofs.leaves.text_of.Goals as goal

pub unreachable-requires : goal.unreachable-requires
unreachable-requires c = let same = c.in-None.ensures.only (text_there c.args.bytes.now c.in_ok-content.content c.requires c.in_ok-content.ensures) refl in cc
