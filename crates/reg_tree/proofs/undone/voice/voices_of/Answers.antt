use Rattle.reg_tree.proofs.GatheredLemmas.{contents_more, voices_more}
use Rattle.reg_tree.proofs.undone.voice.voices_of.Goals as goal

pub loop-register-preserved : goal.loop-register-preserved
loop-register-preserved c = record {
  contents = contents_more c.loop-register.voices.items c.push.new.self.items c.in_ok-voice.voice c.args.registers.now c.loop-register.register-index c.register-item.result
      c.in_ok-push.ensures.items c.in_ok-voice.ensures.register c.loop-register-test.true c.register-item.is c.loop-register.invariant.contents;
  voices = voices_more c.loop-register.voices.items c.push.new.self.items c.in_ok-voice.voice c.in_ok-push.ensures.items c.in_ok-voice.ensures.voice c.loop-register.invariant.voices;
}
