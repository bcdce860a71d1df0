use Rattle.std.proofs.Common.{◌≡◌, not, map, take, filter}
use Rattle.reg_report.specs.Conflicts.{bytes_of}
use Rattle.reg_disorder.specs.Keys.{has_key}
use Rattle.reg_news.proofs.keys.unknown.Given as goal

abbrev pub invariant-loop-key : goal.invariant-loop-key
invariant-loop-key l = map bytes_of l.made.items ≡ filter (λ k. not (has_key l.known k)) (map bytes_of (take l.key-index l.later))
