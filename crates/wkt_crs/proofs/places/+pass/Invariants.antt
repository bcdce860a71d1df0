use Rattle.std.proofs.Common.{◌≤◌, length, ◌+◌, ◌*◌}
use Rattle.wkt_crs.proofs.Passes.{GoesOn}
use Rattle.wkt_crs.proofs.places.+pass.Given as goal

abbrev pub decreases-pass_item : goal.decreases-pass_item
decreases-pass_item l = 2 * length l.cursor.now

abbrev pub decreases-pass_items : goal.decreases-pass_items
decreases-pass_items l = 2 * length l.cursor.now + 1

abbrev pub invariant-pass_items-loop-cursor : goal.invariant-pass_items-loop-cursor
invariant-pass_items-loop-cursor l = record { shorter : length l.cursor ≤ length l.fn.cursor; goes : GoesOn l.fn.cursor l.cursor }

abbrev pub decreases-pass_items-loop-cursor : goal.decreases-pass_items-loop-cursor
decreases-pass_items-loop-cursor l = length l.cursor
