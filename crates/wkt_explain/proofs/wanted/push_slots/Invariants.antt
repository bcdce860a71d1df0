use Rattle.std.proofs.Common.{◌≡◌, ◌++◌, length}
use Rattle.std.specs.List.{flat_map}
use Rattle.wkt_explain.specs.Wanted.{slot_words}
use Rattle.wkt_explain.proofs.wanted.push_slots.Given as goal

abbrev pub invariant-loop-slot : goal.invariant-loop-slot
invariant-loop-slot l = l.out.items ++ flat_map slot_words l.rest ≡ l.initial.out.items ++ flat_map slot_words l.slots

abbrev pub decreases-loop-slot : goal.decreases-loop-slot
decreases-loop-slot l = length l.rest
