use Rattle.std.proofs.Common.{map, length}
use Rattle.reg_sense.specs.Claimants.{detail_seen}
use Rattle.reg_lint.proofs.DisputeLemmas.{no_detail}
use Rattle.reg_lint.proofs.KeptLemmas.{Maps}
use Rattle.reg_lint.proofs.details.no_details.Given as goal

abbrev pub invariant-loop-others : goal.invariant-loop-others
invariant-loop-others l = Maps no_detail l.kept l.rest (map detail_seen l.made.items)

abbrev pub decreases-loop-others : goal.decreases-loop-others
decreases-loop-others l = length l.rest
