use Rattle.std.proofs.Common.{◌≡◌, ◌-◌, ◌++◌, take, drop, length}
use Rattle.text_hidden.specs.Short.{first_characters}
use Rattle.text_hidden.proofs.short.shortened.Given as goal

abbrev pub invariant-loop-at : goal.invariant-loop-at
invariant-loop-at l = first_characters 200 l.text ≡ take l.at l.text ++ first_characters l.left (drop l.at l.text)

abbrev pub decreases-loop-at : goal.decreases-loop-at
decreases-loop-at l = length l.text - l.at
