use Rattle.std.proofs.Common.{◌≡◌, map, take}
use Rattle.reg_sense.specs.declared.claimant.Claimant.{Claimant}
use Rattle.reg_sense.specs.Claimants.{voice, detail_seen}
use Rattle.reg_sense.specs.Most.{told_against}
use Rattle.reg_sense.proofs.most.each_told.Given as goal

abbrev pub invariant-loop-claimant : goal.invariant-loop-claimant
invariant-loop-claimant l = map detail_seen l.made.items ≡ map (λ (c : Claimant). told_against (map voice l.fn.claimants) (voice c)) (take l.claimant-index l.fn.claimants)
