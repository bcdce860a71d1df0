use Rattle.std.proofs.Common.{◌↔◌, length}
use Rattle.std.specs.List.{Any}
use Rattle.crs_value.specs.Usages.{HasBoxAround}
use Rattle.crs_value.proofs.search.point.some_has_box_around.Given as goal

abbrev pub invariant-loop-usage : goal.invariant-loop-usage
invariant-loop-usage l = Any (HasBoxAround l.point) l.usages ↔ Any (HasBoxAround l.point) l.rest

abbrev pub decreases-loop-usage : goal.decreases-loop-usage
decreases-loop-usage l = length l.rest
