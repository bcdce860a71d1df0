use Rattle.std.proofs.Common.{◌≡◌, map, take}
use Rattle.std.specs.List.{flat_map}
use Rattle.reg_op.specs.Operations.{Op}
use Rattle.reg_op.specs.Rows.{rows_at}
use Rattle.reg_report.specs.Seen.{row_seen}
use Rattle.reg_report.proofs.MarkLemmas.{IsLeft}
use Rattle.reg_report.proofs.row.rows.Given as goal

abbrev pub invariant-loop-op : goal.invariant-loop-op
invariant-loop-op l = (map row_seen l.made.items ≡ flat_map (λ (o : Op). rows_at l.register.ops o.id o.body) (take l.op-index l.ops)) × IsLeft l.ops l.op-index l.rest
