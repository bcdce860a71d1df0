use Rattle.std.proofs.Common.{◌≡◌, ◌++◌, map, length}
use Rattle.crs_value.specs.Usages.{usages_of}
use Rattle.reg_page.specs.Boxes.{box_seen, boxes_in}
use Rattle.reg_page.proofs.boxes.boxes_of.Given as goal

abbrev pub invariant-loop-usage : goal.invariant-loop-usage
invariant-loop-usage l = map box_seen l.boxes.items ++ boxes_in l.rest ≡ boxes_in (usages_of l.parts)

abbrev pub decreases-loop-usage : goal.decreases-loop-usage
decreases-loop-usage l = length l.rest
