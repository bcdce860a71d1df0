use Rattle.std.proofs.Common.{◌||◌, map, sym, ap, ◌∙◌}
use Rattle.reg_tree.specs.Voices.{content_of, has_saying, lost_at}
use Rattle.reg_tree.proofs.GatheredLemmas.{or_more_from, or_turned}
use Rattle.reg_tree.proofs.undone.list.put_lost.Goals as goal

pub loop-op-preserved : goal.loop-op-preserved
loop-op-preserved c = λ has right q.
    let lost = lost_at has (map content_of c.args.voices.now) (content_of c.args.join.now) (content_of c.args.voice.now) q in
    let o = c.op-item.result in
    or_more_from lost c.as_slice-ops.result.now c.loop-op.op-index o c.loop-op-test.true c.op-item.is (has_saying c.args.lost.now q) (has_saying c.put_saying.new.set q) (has_saying c.loop-op.lost q)
    (c.in_ok-put_saying.ensures q ∙ ap (λ b. b || has_saying c.loop-op.lost q) (sym (c.lost_by.ensures has right q)) ∙ or_turned (lost o) (has_saying c.loop-op.lost q))
    (c.loop-op.invariant has right q)
