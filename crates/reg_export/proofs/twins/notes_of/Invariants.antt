use Rattle.std.proofs.Common.{◌≡◌, ◌++◌, ℕ, List, length, map}
use Rattle.std.specs.Global.{Vec}
use Rattle.reg_export.specs.Twins.{At, Holds, Tells}
use Rattle.reg_export.proofs.twins.notes_of.Given as goal

abbrev pub invariant-loop-name : goal.invariant-loop-name
invariant-loop-name l = (done : List (List ℕ)) × (map (λ (n : Vec ℕ). n.items) l.names ≡ done ++ map (λ (n : Vec ℕ). n.items) l.rest) × ((at : At) × Holds l.made at × ((k : List ℕ) → Tells done k (at k)))

abbrev pub decreases-loop-name : goal.decreases-loop-name
decreases-loop-name l = length l.rest
