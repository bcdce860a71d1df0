use Rattle.std.proofs.Common.{◌∙◌}
use Rattle.reg_report.proofs.AwaitedLemmas.{awaited_are}
use Rattle.reg_report.proofs.named.awaited.Goals as goal

pub returns : goal.returns
returns c = c.distinct.ensures ∙ awaited_are c.args.register.now.ops c.as_slice-op-items.result.now c.loop-op.op-index c.loop-op.ids.items c.ops.ensures.content.is_kept (c.as_slice-op-items.ensures ∙ c.ops.ensures.items) c.loop-op-test.false c.loop-op.invariant
