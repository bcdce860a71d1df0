use Rattle.wkt_build.proofs.leaves.decimal_of.Goals as goal

pub unreachable-requires : goal.unreachable-requires
unreachable-requires c = let same = c.in-Err.ensures.only c.requires.0 c.requires.1 in cc
