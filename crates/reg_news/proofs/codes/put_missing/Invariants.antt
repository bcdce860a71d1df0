use Rattle.std.proofs.Common.{◌≡◌, ◌↔◌, ◌⊎◌, true, map, take}
use Rattle.reg_report.specs.Conflicts.{KeyBytes}
use Rattle.reg_disorder.specs.Keys.{has_key}
use Rattle.reg_disorder.specs.Marks.{mark_seen}
use Rattle.reg_news.specs.Codes.{IsMissing}
use Rattle.reg_news.proofs.codes.put_missing.Given as goal

abbrev pub invariant-loop-mark : goal.invariant-loop-mark
invariant-loop-mark l = (k : KeyBytes) → (has_key l.keys k ≡ true) ↔ ((has_key l.fn.keys k ≡ true) ⊎ IsMissing (map mark_seen (take l.mark-index l.marks)) (map mark_seen l.others) k)
