use Rattle.std.proofs.Common.{◌≡◌, map, take}
use Rattle.std.specs.List.{flat_map}
use Rattle.reg_report.specs.Seen.{row_seen}
use Rattle.reg_report.proofs.ShownLemmas.{row_if}
use Rattle.reg_report.proofs.one_entry.rows_of.Given as goal

abbrev pub invariant-loop-op : goal.invariant-loop-op
invariant-loop-op l = map row_seen l.made.items ≡ flat_map (row_if l.register.ops l.entry) (take l.op-index l.ops)
