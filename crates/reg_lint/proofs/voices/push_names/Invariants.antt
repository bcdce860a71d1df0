use Rattle.std.proofs.Common.{◌≡◌, ◌++◌, ℕ, map}
use Rattle.std.specs.Global.{Vec}
use Rattle.reg_lint.proofs.voices.push_names.Given as goal

abbrev pub invariant-loop-name : goal.invariant-loop-name
invariant-loop-name l = map (λ (name : Vec ℕ). name.items) l.names.items ≡ map (λ (name : Vec ℕ). name.items) l.initial.names.items ++ map (λ (name : Vec ℕ). name.items) l.yielded
