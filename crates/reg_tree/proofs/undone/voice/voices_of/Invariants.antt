use Rattle.std.proofs.Common.{◌≡◌, map, take}
use Rattle.reg_tree.specs.Voices.{AreVoices, content_of}
use Rattle.reg_tree.proofs.undone.voice.voices_of.Given as goal

abbrev pub invariant-loop-register : goal.invariant-loop-register
invariant-loop-register l = record {
  contents : map content_of l.voices.items ≡ take l.register-index l.registers;
  voices : AreVoices l.voices.items;
}
