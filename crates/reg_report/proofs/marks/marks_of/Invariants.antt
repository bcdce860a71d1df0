use Rattle.std.proofs.Common.{◌≡◌, take}
use Rattle.reg_report.specs.Marks.{targets_of}
use Rattle.reg_report.proofs.marks.marks_of.Given as goal

abbrev pub invariant-loop-op : goal.invariant-loop-op
invariant-loop-op l = l.marks.items ≡ targets_of (take l.op-index l.ops)
