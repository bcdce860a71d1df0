use Rattle.std.proofs.Common.{◌≡◌, ◌++◌, map, take}
use Rattle.reg_disorder.specs.declared.link.OlderLink.{OlderLink}
use Rattle.reg_disorder.proofs.heir.push_old.Given as goal

abbrev pub invariant-loop-link : goal.invariant-loop-link
invariant-loop-link l = l.todo.items ≡ l.initial.todo.items ++ map (λ (x : OlderLink). x.old) (take l.link-index l.links)
