use Rattle.std.proofs.Common.{◌≡◌, ◌∷◌, ◌||◌, map, take}
use Rattle.std.specs.List.{list_any}
use Rattle.reg_report.specs.Conflicts.{KeyBytes}
use Rattle.reg_tree.specs.Sayings.{Keys, Saying}
use Rattle.reg_tree.specs.Voices.{AreAllRight, content_of, has_saying, lost_at}
use Rattle.reg_tree.proofs.undone.list.put_lost.Given as goal

abbrev pub invariant-loop-op : goal.invariant-loop-op
invariant-loop-op l = (has : Keys KeyBytes) → AreAllRight has (l.join ∷ l.voice ∷ l.voices) → (q : Saying KeyBytes)
    → has_saying l.lost q ≡ (has_saying l.initial.lost q || list_any (lost_at has (map content_of l.voices) (content_of l.join) (content_of l.voice) q) (take l.op-index l.ops))
