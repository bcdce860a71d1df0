use Rattle.std.proofs.Common.{◌↔◌, length}
use Rattle.crs_value.specs.Parts.{HasPart}
use Rattle.crs_value.proofs.search.part.begins_somewhere.Given as goal

abbrev pub invariant-loop-others : goal.invariant-loop-others
invariant-loop-others l = HasPart l.part l.text ↔ HasPart l.part l.rest

abbrev pub decreases-loop-others : goal.decreases-loop-others
decreases-loop-others l = length l.rest
