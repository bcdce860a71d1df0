use Rattle.std.proofs.Common.{◌≡◌, ◌++◌, ℕ, length, map}
use Rattle.std.specs.List.{flat_map}
use Rattle.std.specs.Global.{Vec}
use Rattle.crs_export.specs.Features.{after_comma}
use Rattle.crs_export.proofs.collection.push_others.Given as goal

abbrev pub invariant-loop-feature : goal.invariant-loop-feature
invariant-loop-feature l = l.text.items ++ flat_map after_comma (map (λ (f : Vec ℕ). f.items) l.rest) ≡ l.initial.text.items ++ flat_map after_comma (map (λ (f : Vec ℕ). f.items) l.features)

abbrev pub decreases-loop-feature : goal.decreases-loop-feature
decreases-loop-feature l = length l.rest
