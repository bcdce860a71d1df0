use Rattle.reg_report.proofs.MarkLemmas.{sorted_tell}
use Rattle.reg_report.proofs.marks.marks_of.Goals as goal

pub returns-clause-marks : goal.returns-clause-marks
returns-clause-marks c = sorted_tell c.args.ops.now c.loop-op.op-index c.loop-op.marks.items c.sort_unstable.new.self.items c.loop-op-test.false c.loop-op.invariant c.sort_unstable.ensures.permutation
