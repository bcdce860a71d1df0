-- Calls that add nothing, one after another.
use Rattle.std.proofs.Common.{ℕ, List, ◌∙◌}
use Rattle.byte_disk.proofs.Moments.{weaker, joined}
use Rattle.byte_shelf.specs.Keep.{AddsNothing}

pub quiet_then : {D : Type 0} (seen : D → List ℕ) (images : D → List ℕ → Type 0) (moment : D → ℕ) (since : D → ℕ → List ℕ → Type 0) (old mid new : D)
    → AddsNothing seen images moment since old mid → AddsNothing seen images moment since mid new → AddsNothing seen images moment since old new
quiet_then seen images moment since old mid new first second = record {
  same = second.same ∙ first.same;
  fewer = λ c may. first.fewer c (second.fewer c may);
  any_moment = joined moment since old mid new (images old) first.any_moment (weaker moment since mid new (images mid) (images old) second.any_moment first.fewer);
}
