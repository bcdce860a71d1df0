use Rattle.std.proofs.Common.{◌≡◌, take}
use Rattle.reg_disorder.specs.Passing.{bodies_of}
use Rattle.reg_disorder.proofs.linking.passing.bodies_of.Given as goal

abbrev pub invariant-loop-link : goal.invariant-loop-link
invariant-loop-link l = l.bodies.items ≡ bodies_of (take l.link-index l.links)
