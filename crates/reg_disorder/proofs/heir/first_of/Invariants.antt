use Rattle.std.proofs.Common.{take}
use Rattle.reg_disorder.specs.Heirs.{AreFirst}
use Rattle.reg_disorder.proofs.heir.first_of.Given as goal

abbrev pub invariant-loop-link : goal.invariant-loop-link
invariant-loop-link l = AreFirst l.valid (take l.link-index l.links) l.made.items
