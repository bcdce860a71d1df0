use Rattle.std.proofs.Common.{◌≡◌, length, None}
use Rattle.std.specs.Option.{option_map}
use Rattle.crs_said.specs.Letters.{behind_last}
use Rattle.crs_said.proofs.letters.behind_last.Given as goal

abbrev pub invariant-loop-others : goal.invariant-loop-others
invariant-loop-others l = behind_last l.part l.rest (option_map (λ rest. rest.now) l.found) ≡ behind_last l.part l.name None

abbrev pub decreases-loop-others : goal.decreases-loop-others
decreases-loop-others l = length l.rest
