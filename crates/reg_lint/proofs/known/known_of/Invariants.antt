use Rattle.std.proofs.Common.{◌≡◌, ◌||◌, ℕ, List, map, length}
use Rattle.csv.specs.Records.{fields_of}
use Rattle.reg_lint.specs.Known.{mark_of, has_mark, is_among}
use Rattle.reg_lint.proofs.known.known_of.Given as goal

abbrev pub invariant-loop-row : goal.invariant-loop-row
invariant-loop-row l = (m : List ℕ) → (has_mark l.known m || is_among (map mark_of (map fields_of l.rest)) m) ≡ is_among (map mark_of (map fields_of l.rows)) m

abbrev pub decreases-loop-row : goal.decreases-loop-row
decreases-loop-row l = length l.rest
