use Rattle.std.proofs.Common.{ℕ, map, length}
use Rattle.std.specs.Global.{Vec}
use Rattle.crs_said.specs.References.{system_names}
use Rattle.reg_lint.specs.Subjects.{Subject}
use Rattle.reg_lint.proofs.KeptLemmas.{FlatMaps}
use Rattle.reg_lint.proofs.voices.names_of.Given as goal

abbrev pub invariant-loop-one : goal.invariant-loop-one
invariant-loop-one l = FlatMaps (λ (s : Subject). system_names s.crs.parts) l.kept l.rest (map (λ (name : Vec ℕ). name.items) l.made.items)

abbrev pub decreases-loop-one : goal.decreases-loop-one
decreases-loop-one l = length l.rest
