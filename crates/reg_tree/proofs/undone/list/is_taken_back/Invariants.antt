use Rattle.std.proofs.Common.{◌≡◌, false, take}
use Rattle.std.specs.List.{list_any}
use Rattle.reg_tree.specs.Voices.{is_unsaid, saying_seen}
use Rattle.reg_tree.proofs.undone.list.is_taken_back.Given as goal

abbrev pub invariant-loop-voice : goal.invariant-loop-voice
invariant-loop-voice l = list_any (is_unsaid (saying_seen l.saying) l.id) (take l.voice-index l.voices) ≡ false
