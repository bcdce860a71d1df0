use Rattle.std.proofs.Common.{◌≡◌, ℕ, ◌++◌, map, length}
use Rattle.std.specs.Global.{Vec}
use Rattle.crs_value.specs.Usages.{usages_of}
use Rattle.reg_page.specs.Kinds.{areas_in}
use Rattle.reg_page.proofs.kind.areas_of.Given as goal

abbrev pub invariant-loop-usage : goal.invariant-loop-usage
invariant-loop-usage l = map (λ (a : Vec ℕ). a.items) l.areas.items ++ areas_in l.rest ≡ areas_in (usages_of l.parts)

abbrev pub decreases-loop-usage : goal.decreases-loop-usage
decreases-loop-usage l = length l.rest
