use Rattle.std.proofs.Common.{◌≡◌, drop}
use Rattle.reg_take.specs.Taken.{Progress, Shows, each_taken}
use Rattle.reg_take.proofs.taking.Taking.walk.Given as goal

-- the walk over the remaining files, from here, gives what the walk over all files gives from the start
abbrev pub invariant-loop-file : goal.invariant-loop-file
invariant-loop-file l = (t : Progress) → Shows l.fn.self t → (now : Progress) × Shows l.taking now × (each_taken l.phase now l.file (drop l.file l.arrivals) ≡ each_taken l.phase t 0 l.arrivals)
