use Rattle.std.proofs.Common.{◌≡◌, ◌++◌, map, take}
use Rattle.reg_disorder.specs.Heirs.{link_to}
use Rattle.reg_disorder.proofs.link.push_links.Given as goal

abbrev pub invariant-loop-id : goal.invariant-loop-id
invariant-loop-id l = l.links.items ≡ l.initial.links.items ++ map (link_to l.old) (take l.id-index l.newer)
