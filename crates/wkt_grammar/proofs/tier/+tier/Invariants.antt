use Rattle.std.proofs.Common.{◌≤◌, length, ◌+◌, ◌*◌}
use Rattle.wkt_grammar.specs.Rows.{row_of}
use Rattle.wkt_grammar.proofs.Steps.{GoesOn}
use Rattle.wkt_grammar.proofs.tier.+tier.Given as goal

abbrev pub decreases-check_argument : goal.decreases-check_argument
decreases-check_argument l = 2 * length l.cursor.now

abbrev pub decreases-check_node : goal.decreases-check_node
decreases-check_node l = 2 * length l.cursor.now + 1

abbrev pub invariant-check_node-loop-cursor : goal.invariant-check_node-loop-cursor
invariant-check_node-loop-cursor l = record { shorter : length l.cursor ≤ length l.fn.cursor; within : l.place.slot ≤ length (row_of l.edition l.node); goes : GoesOn l.edition l.node l.fn.cursor l.cursor l.place }

abbrev pub decreases-check_node-loop-cursor : goal.decreases-check_node-loop-cursor
decreases-check_node-loop-cursor l = length l.cursor
