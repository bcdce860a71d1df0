-- Finite sets: whether some member passes, and the members that no member is above.
use Rattle.std.specs.Prelude.{Bool, not}
use Rattle.std.specs.List.{list_any}
use Rattle.std.specs.declared.cmp.Ordering.{Ordering}
use Rattle.reg_op.specs.Set.{Set, items, retain}

-- some member passes
abbrev pub any : {K : Type 0} {R : K → K → Ordering} → (K → Bool) → Set R → Bool
any t s = list_any t (items s)

-- the members that no member is above
abbrev pub topmost : {K : Type 0} {R : K → K → Ordering} → (K → K → Bool) → Set R → Set R
topmost above s = retain s (λ x. not (any (λ p. above p x) s))
