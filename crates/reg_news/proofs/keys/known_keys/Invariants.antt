use Rattle.std.proofs.Common.{map, take}
use Rattle.reg_report.specs.Conflicts.{bytes_of}
use Rattle.reg_news.specs.Keys.{HasKeys}
use Rattle.reg_news.proofs.keys.known_keys.Given as goal

abbrev pub invariant-loop-key : goal.invariant-loop-key
invariant-loop-key l = HasKeys (map bytes_of (take l.key-index l.keys)) l.known
