-- A test of a list and its elements.
use Rattle.std.proofs.Common.{◌≡◌, Bool, true, zero, suc, List, [], ◌∷◌, refl, sym, subst, inl, inr, ◌⊎◌, arith}
use Rattle.std.proofs.lemmas.Bool.{or_cases, or_left, or_right, true≢false}
use Rattle.std.specs.Prelude.{Contains}
use Rattle.std.specs.Cmp.{both_ways}
use Rattle.std.specs.List.{list_any}
use Rattle.reg_op.specs.Joining.{SameMembers}

pub contains_cases : {T : Type 0} (x : T) (xs : List T) (y : T) → Contains (x ∷ xs) y → (x ≡ y) ⊎ Contains xs y
contains_cases x xs y (zero, _, e) = inl e
contains_cases x xs y (suc k, h, e) = inr (k, omega arith, e)

pub contains_head : {T : Type 0} (x : T) (xs : List T) → Contains (x ∷ xs) x
contains_head x xs = (0, omega arith, refl)

pub contains_tail : {T : Type 0} (x : T) (xs : List T) (y : T) → Contains xs y → Contains (x ∷ xs) y
contains_tail x xs y h = (suc h.0, omega (arith, h.1), h.2)

-- an element that passes, and only such a one, lets the test of the list pass
pub any_at : {T : Type 0} (t : T → Bool) (xs : List T) (x : T) → Contains xs x → t x ≡ true → list_any t xs ≡ true
any_at t [] x h p = absurd (omega (arith, h.1))
any_at t (y ∷ ys) x h p =
    elim (contains_cases y ys x h) [
      | inl e ↦ or_left (t y) _ (subst (λ z. t z ≡ true) (sym e) p)
      | inr c ↦ or_right (t y) _ (any_at t ys x c p)
    ]

pub any_has : {T : Type 0} (t : T → Bool) (xs : List T) → list_any t xs ≡ true → (x : T) × Contains xs x × (t x ≡ true)
any_has t [] h = absurd (true≢false (sym h))
any_has t (y ∷ ys) h =
    elim (or_cases (t y) _ h) [
      | inl e ↦ (y, contains_head y ys, e)
      | inr e ↦ let r = any_has t ys e in (r.0, contains_tail y ys r.0 r.1, r.2)
    ]

pub same_back : {T : Type 0} (xs ys : List T) → SameMembers xs ys → SameMembers ys xs
same_back xs ys same = λ x. ((same x).1, (same x).0)

pub any_same : {T : Type 0} (t : T → Bool) (xs ys : List T) → SameMembers xs ys → list_any t xs ≡ list_any t ys
any_same t xs ys same = both_ways _ _
    (λ h. let r = any_has t xs h in any_at t ys r.0 ((same r.0).0 r.1) r.2)
    (λ h. let r = any_has t ys h in any_at t xs r.0 ((same r.0).1 r.1) r.2)
