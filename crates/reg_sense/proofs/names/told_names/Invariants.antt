use Rattle.std.proofs.Common.{◌≡◌, ℕ, map, take}
use Rattle.std.specs.Global.{Vec}
use Rattle.reg_sense.specs.declared.claimant.Claimant.{Claimant}
use Rattle.reg_sense.specs.Claimants.{voice, detail_seen}
use Rattle.reg_sense.specs.Names.{told_names}
use Rattle.reg_sense.proofs.names.told_names.Given as goal

abbrev pub invariant-loop-claimant : goal.invariant-loop-claimant
invariant-loop-claimant l = map detail_seen l.made.items ≡ map (λ (c : Claimant). told_names (map (λ (name : Vec ℕ). name.items) l.fn.names) (voice c)) (take l.claimant-index l.fn.claimants)
