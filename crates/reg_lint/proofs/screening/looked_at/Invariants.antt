use Rattle.std.proofs.Common.{◌≡◌, map, take}
use Rattle.reg_lint.specs.Screening.{kept_in}
use Rattle.reg_lint.proofs.screening.looked_at.Given as goal

abbrev pub invariant-loop-one : goal.invariant-loop-one
invariant-loop-one l = map kept_in l.made.items ≡ take l.one-index l.fn.kept
