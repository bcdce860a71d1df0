use Rattle.std.proofs.Common.{◌≡◌, ◌++◌, length}
use Rattle.std.specs.List.{flat_map}
use Rattle.reg_news.specs.Hidden.{risen_of}
use Rattle.reg_news.proofs.gained.risen.risen_among.Given as goal

abbrev pub invariant-loop-office : goal.invariant-loop-office
invariant-loop-office l = l.made.items ++ flat_map (risen_of l.seen) l.rest ≡ flat_map (risen_of l.seen) l.figures

abbrev pub decreases-loop-office : goal.decreases-loop-office
decreases-loop-office l = length l.rest
