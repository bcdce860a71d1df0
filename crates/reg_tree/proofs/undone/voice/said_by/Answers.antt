use Rattle.std.proofs.Common.{◌||◌, sym, ap, ◌∙◌}
use Rattle.reg_op.specs.Operations.{Op}
use Rattle.reg_tree.specs.Sayings.{tells}
use Rattle.reg_tree.specs.Voices.{has_saying}
use Rattle.reg_tree.proofs.GatheredLemmas.{none_said, or_more, or_turned, in_all}
use Rattle.reg_tree.proofs.undone.voice.said_by.Goals as goal

pub loop-op-init : goal.loop-op-init
loop-op-init c = λ has right q. none_said c.new-said.result c.new-said.ensures.empty q

pub loop-op-preserved : goal.loop-op-preserved
loop-op-preserved c = λ has right q.
    let s = c.args.register.now.ops in
    let o = c.op-item.result in
    or_more (λ (p : Op). tells has s q p.body) c.as_slice-ops.result.now c.loop-op.op-index o c.loop-op-test.true c.op-item.is (has_saying c.put_saying.new.set q) (has_saying c.loop-op.said q)
    (c.in_ok-put_saying.ensures q ∙ ap (λ b. b || has_saying c.loop-op.said q) (sym (c.saying_of.ensures has right q)) ∙ or_turned (tells has s q o.body) (has_saying c.loop-op.said q))
    (c.loop-op.invariant has right q)

pub returns : goal.returns
returns c = λ has right q.
    in_all (λ (p : Op). tells has c.args.register.now.ops q p.body) c.args.register.now.ops c.as_slice-ops.result.now c.loop-op.op-index (has_saying c.loop-op.said q)
    (c.as_slice-ops.ensures ∙ c.ops.ensures.items) c.loop-op-test.false (c.loop-op.invariant has right q)
