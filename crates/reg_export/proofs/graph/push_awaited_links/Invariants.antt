use Rattle.std.proofs.Common.{◌≡◌, ◌++◌, length}
use Rattle.std.specs.List.{flat_map}
use Rattle.reg_export.specs.Graph.{links_in}
use Rattle.reg_export.proofs.graph.push_awaited_links.Given as goal

abbrev pub invariant-loop-op : goal.invariant-loop-op
invariant-loop-op l = l.ids.items ++ flat_map (links_in l.register.ops) l.rest ≡ l.initial.ids.items ++ flat_map (links_in l.register.ops) l.ops

abbrev pub decreases-loop-op : goal.decreases-loop-op
decreases-loop-op l = length l.rest
