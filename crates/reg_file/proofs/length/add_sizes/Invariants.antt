use Rattle.std.proofs.Common.{◌≡◌, ◌≤◌, ◌+◌, length}
use Rattle.std.specs.List.{flat_map}
use Rattle.reg_file.specs.Layout.{op_bytes}
use Rattle.reg_file.proofs.length.add_sizes.Given as goal

abbrev pub invariant-loop-op : goal.invariant-loop-op
invariant-loop-op l = record {
  whole : l.total + length (flat_map (op_bytes l.version) l.rest) ≡ l.size + length (flat_map (op_bytes l.version) l.ops);
  few : l.total ≤ 67108864;
}

abbrev pub decreases-loop-op : goal.decreases-loop-op
decreases-loop-op l = length l.rest
