use Rattle.std.proofs.Common.{◌++◌, ◌-◌, ℕ, List, length, map, drop}
use Rattle.reg_texts.specs.KeySheet.{AreLinesOf}
use Rattle.reg_texts.specs.Said.{said}
use Rattle.reg_texts.proofs.key_lines.lines_of.Given as goal

abbrev pub invariant-loop-first : goal.invariant-loop-first
invariant-loop-first l = (more : List ℕ) → AreLinesOf (map said (drop l.at l.sayings)) more → AreLinesOf (map said l.sayings) (l.text.items ++ more)

abbrev pub decreases-loop-first : goal.decreases-loop-first
decreases-loop-first l = length l.sayings - l.at
