use Rattle.std.proofs.Common.{map, drop}
use Rattle.reg_sense.specs.Claimants.{detail_seen}
use Rattle.reg_lint.specs.Details.{told}
use Rattle.reg_lint.specs.Screening.{kept_in}
use Rattle.reg_lint.proofs.KeptLemmas.{Maps}
use Rattle.reg_lint.proofs.details.own_details.Given as goal

abbrev pub invariant-loop-one : goal.invariant-loop-one
invariant-loop-one l = Maps (told l.fn.rule) (map kept_in l.fn.screened) (map kept_in (drop l.one-index l.fn.screened)) (map detail_seen l.made.items)
