use Rattle.std.proofs.Common.{◌≡◌, take}
use Rattle.reg_page.specs.Descriptions.{at}
use Rattle.reg_page.proofs.described.all_of.Given as goal

abbrev pub invariant-loop-one : goal.invariant-loop-one
invariant-loop-one l = at l.made.items ≡ take l.one-index l.described
