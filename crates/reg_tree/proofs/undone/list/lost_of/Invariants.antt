use Rattle.std.proofs.Common.{◌≡◌, ◌∷◌, map, take}
use Rattle.std.specs.List.{list_any}
use Rattle.reg_report.specs.Conflicts.{KeyBytes}
use Rattle.reg_tree.specs.Sayings.{Keys, Saying}
use Rattle.reg_tree.specs.declared.undone.voice.Voice.{Voice}
use Rattle.reg_tree.specs.Voices.{AreAllRight, content_of, has_saying, lost_in}
use Rattle.reg_tree.proofs.undone.list.lost_of.Given as goal

abbrev pub invariant-loop-voice : goal.invariant-loop-voice
invariant-loop-voice l = (has : Keys KeyBytes) → AreAllRight has (l.join ∷ l.voices) → (q : Saying KeyBytes)
    → has_saying l.lost q ≡ list_any (λ (v : Voice). lost_in has (map content_of l.voices) (content_of l.join) q (content_of v)) (take l.voice-index l.voices)
