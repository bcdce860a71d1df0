use Rattle.std.proofs.Common.{◌≡◌, ◌++◌, length, map}
use Rattle.std.specs.List.{flat_map}
use Rattle.reg_report.specs.Contenders.{conflict_seen}
use Rattle.reg_export.specs.Graph.{rivals_of}
use Rattle.reg_export.proofs.graph.push_all_rivals.Given as goal

abbrev pub invariant-loop-one : goal.invariant-loop-one
invariant-loop-one l = l.text.items ++ flat_map rivals_of (map conflict_seen l.rest) ≡ l.initial.text.items ++ flat_map rivals_of (map conflict_seen l.conflicts)

abbrev pub decreases-loop-one : goal.decreases-loop-one
decreases-loop-one l = length l.rest
