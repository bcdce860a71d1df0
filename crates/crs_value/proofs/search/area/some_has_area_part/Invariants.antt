use Rattle.std.proofs.Common.{◌↔◌, length}
use Rattle.std.specs.List.{Any}
use Rattle.crs_value.specs.Usages.{HasAreaPart}
use Rattle.crs_value.proofs.search.area.some_has_area_part.Given as goal

abbrev pub invariant-loop-usage : goal.invariant-loop-usage
invariant-loop-usage l = Any (HasAreaPart l.part) l.usages ↔ Any (HasAreaPart l.part) l.rest

abbrev pub decreases-loop-usage : goal.decreases-loop-usage
decreases-loop-usage l = length l.rest
