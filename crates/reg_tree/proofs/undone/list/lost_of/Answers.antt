use Rattle.std.proofs.Common.{map, sym, ap, ◌∙◌}
use Rattle.std.proofs.lemmas.List.{take_all}
use Rattle.std.specs.List.{list_any}
use Rattle.reg_tree.specs.declared.undone.voice.Voice.{Voice}
use Rattle.reg_tree.specs.Voices.{content_of, has_saying, lost_in}
use Rattle.reg_tree.proofs.GatheredLemmas.{none_said, or_more, with_one, any_map}
use Rattle.reg_tree.proofs.undone.list.lost_of.Goals as goal

pub put_lost-requires-clause-voice : goal.put_lost-requires-clause-voice
put_lost-requires-clause-voice c = c.requires.voices c.voice-item.result (c.loop-voice.voice-index, c.loop-voice-test.true, sym c.voice-item.is)

pub loop-voice-init : goal.loop-voice-init
loop-voice-init c = λ has right q. none_said c.new-lost.result c.new-lost.ensures.empty q

pub loop-voice-preserved : goal.loop-voice-preserved
loop-voice-preserved c = λ has right q.
    let vs = c.args.voices.now in
    let v = c.voice-item.result in
    or_more (λ (u : Voice). lost_in has (map content_of vs) (content_of c.args.join.now) q (content_of u)) vs c.loop-voice.voice-index v c.loop-voice-test.true c.voice-item.is
    (has_saying c.put_lost.new.lost q) (has_saying c.loop-voice.lost q)
    (c.in_ok-put_lost.ensures has (with_one has c.args.join.now v vs (c.loop-voice.voice-index, c.loop-voice-test.true, sym c.voice-item.is) right) q)
    (c.loop-voice.invariant has right q)

pub returns : goal.returns
returns c = λ has right q.
    let vs = c.args.voices.now in
    let p = lost_in has (map content_of vs) (content_of c.args.join.now) q in
    c.loop-voice.invariant has right q ∙ ap (list_any (λ (u : Voice). p (content_of u))) (take_all c.loop-voice.voice-index vs c.loop-voice-test.false) ∙ any_map content_of p vs
