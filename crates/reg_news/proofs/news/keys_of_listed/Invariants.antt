use Rattle.std.proofs.Common.{◌≡◌, map, take}
use Rattle.reg_report.specs.Conflicts.{bytes_of}
use Rattle.reg_disorder.specs.Lists.{listed_seen}
use Rattle.reg_news.proofs.news.keys_of_listed.Given as goal

abbrev pub invariant-loop-one : goal.invariant-loop-one
invariant-loop-one l = map bytes_of l.keys.items ≡ map (λ c. (listed_seen c).key) (take l.one-index l.listed)
