use Rattle.std.proofs.Common.{◌≡◌, ◌++◌, List, length}
use Rattle.std.specs.Prelude.{Contains, ◌↔◌}
use Rattle.reg_disorder.specs.declared.linking.link.Link.{Link}
use Rattle.reg_disorder.specs.Passing.{PassesTo}
use Rattle.reg_disorder.proofs.linking.passing.heir_links_of.Given as goal

abbrev pub invariant-loop-link : goal.invariant-loop-link
invariant-loop-link l = (done : List Link) × (l.before ≡ done ++ l.rest) × ((link : Link) → Contains l.made.items link ↔ PassesTo done l.register.ops link)

abbrev pub decreases-loop-link : goal.decreases-loop-link
decreases-loop-link l = length l.rest
