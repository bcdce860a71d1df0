use Rattle.std.proofs.Common.{◌≡◌, map, take}
use Rattle.reg_report.specs.Conflicts.{bytes_of}
use Rattle.reg_report.specs.Contenders.{conflict_seen}
use Rattle.reg_news.proofs.news.keys_of_conflicts.Given as goal

abbrev pub invariant-loop-conflict : goal.invariant-loop-conflict
invariant-loop-conflict l = map bytes_of l.keys.items ≡ map (λ c. (conflict_seen c).key) (take l.conflict-index l.conflicts)
