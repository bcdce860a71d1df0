use Rattle.std.proofs.Common.{◌≡◌, take}
use Rattle.reg_report.specs.Lines.{ops_header, op_fields, sheet_of, sheet_text, IsReady}
use Rattle.reg_report.proofs.lines.ops_text.Given as goal

abbrev pub invariant-loop-op : goal.invariant-loop-op
invariant-loop-op l = IsReady l.wtr × (sheet_text l.wtr ≡ sheet_of ops_header op_fields (take l.op-index l.ops))
