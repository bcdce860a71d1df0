use Rattle.std.proofs.Common.{◌≡◌, ◌++◌, ℕ, List, length, map}
use Rattle.std.specs.Global.{Vec}
use Rattle.reg_sense.specs.Names.{HasNames}
use Rattle.reg_sense.proofs.names.set_of.Given as goal

abbrev pub invariant-loop-name : goal.invariant-loop-name
invariant-loop-name l = (later : List (List ℕ)) × (map (λ (name : Vec ℕ). name.items) l.names ≡ map (λ (name : Vec ℕ). name.items) l.rest ++ later) × HasNames l.set later

abbrev pub decreases-loop-name : goal.decreases-loop-name
decreases-loop-name l = length l.rest
