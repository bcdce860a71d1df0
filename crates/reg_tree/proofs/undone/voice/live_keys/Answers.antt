use Rattle.std.proofs.Common.{not, ◌&&◌, ◌∙◌, subst}
use Rattle.std.proofs.lemmas.List.{take_all}
use Rattle.reg_op.specs.Operations.{Op}
use Rattle.reg_op.specs.Status.{retires}
use Rattle.reg_report.proofs.PairLemmas.{is_member}
use Rattle.reg_tree.specs.Sayings.{enters_key}
use Rattle.reg_tree.specs.Voices.{has_key}
use Rattle.reg_tree.proofs.GatheredLemmas.{AllKeyed, no_live, none_keyed, live_step, keyed_by, keyed_more, or_more, in_all, are_keyed}
use Rattle.reg_tree.proofs.undone.voice.live_keys.Goals as goal

pub put_live-requires : goal.put_live-requires
put_live-requires c = is_member c.args.register.now.ops c.as_slice-ops.result.now c.loop-op.op-index c.op-item.result (c.as_slice-ops.ensures ∙ c.ops.ensures.items) c.loop-op-test.true c.op-item.is

pub loop-op-init : goal.loop-op-init
loop-op-init c = record { live = λ has right q. no_live c.new-live.result c.new-live.ensures.empty q; keyed = none_keyed }

pub loop-op-preserved : goal.loop-op-preserved
loop-op-preserved c =
    let s = c.args.register.now.ops in
    let os = c.as_slice-ops.result.now in
    let k = c.loop-op.op-index in
    let o = c.op-item.result in
    let there = is_member s os k o (c.as_slice-ops.ensures ∙ c.ops.ensures.items) c.loop-op-test.true c.op-item.is in record {
      live = λ has right q.
          or_more (λ (p : Op). enters_key has q p.body && not (retires s p.id)) os k o c.loop-op-test.true c.op-item.is (has_key c.put_live.new.live q) (has_key c.loop-op.live q)
          (live_step s o.id o.body o.note c.loop-op.live c.put_live.new.live there c.in_ok-put_live.ensures has right q) (c.loop-op.invariant.live has right q);
      keyed = keyed_more os k o c.loop-op-test.true c.op-item.is c.loop-op.invariant.keyed (keyed_by s o.id o.body c.loop-op.live c.put_live.new.live c.in_ok-put_live.ensures);
    }

pub returns-clause-live : goal.returns-clause-live
returns-clause-live c = λ has right q.
    in_all (λ (p : Op). enters_key has q p.body && not (retires c.args.register.now.ops p.id)) c.args.register.now.ops c.as_slice-ops.result.now c.loop-op.op-index (has_key c.loop-op.live q)
    (c.as_slice-ops.ensures ∙ c.ops.ensures.items) c.loop-op-test.false (c.loop-op.invariant.live has right q)

pub returns-clause-keyed : goal.returns-clause-keyed
returns-clause-keyed c =
    are_keyed c.args.register.now.ops
    (subst AllKeyed (take_all c.loop-op.op-index c.as_slice-ops.result.now c.loop-op-test.false ∙ c.as_slice-ops.ensures ∙ c.ops.ensures.items) c.loop-op.invariant.keyed)
