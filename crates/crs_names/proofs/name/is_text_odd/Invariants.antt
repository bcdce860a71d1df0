use Rattle.std.proofs.Common.{◌≡◌, true, length}
use Rattle.crs_names.specs.Name.{odd_after}
use Rattle.crs_names.proofs.name.is_text_odd.Given as goal

abbrev pub invariant-loop-byte : goal.invariant-loop-byte
invariant-loop-byte l = odd_after true l.text ≡ odd_after l.blank l.rest

abbrev pub decreases-loop-byte : goal.decreases-loop-byte
decreases-loop-byte l = length l.rest
