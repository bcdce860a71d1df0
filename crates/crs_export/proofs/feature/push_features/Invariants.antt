use Rattle.std.proofs.Common.{◌≡◌, ◌++◌, ℕ, length, map}
use Rattle.std.specs.Global.{Vec}
use Rattle.crs_export.specs.Features.{features}
use Rattle.crs_export.proofs.feature.push_features.Given as goal

abbrev pub invariant-loop-usage : goal.invariant-loop-usage
invariant-loop-usage l = map (λ (f : Vec ℕ). f.items) l.made.items ++ features l.title l.rest ≡ map (λ (f : Vec ℕ). f.items) l.initial.made.items ++ features l.title l.usages

abbrev pub decreases-loop-usage : goal.decreases-loop-usage
decreases-loop-usage l = length l.rest
