use Rattle.std.proofs.Common.{◌≡◌, ◌≤◌, ◌++◌, length, vec_capacity}
use Rattle.std.specs.List.{flat_map}
use Rattle.reg_file.specs.Layout.{op_bytes}
use Rattle.reg_file.proofs.chunks.spell_some.Given as goal

abbrev pub invariant-loop-op : goal.invariant-loop-op
invariant-loop-op l = record {
  whole : flat_map (op_bytes l.version) l.ops ≡ l.held.items ++ flat_map (op_bytes l.version) l.rest;
  room : 131072 ≤ vec_capacity l.held;
}

abbrev pub decreases-loop-op : goal.decreases-loop-op
decreases-loop-op l = length l.rest
