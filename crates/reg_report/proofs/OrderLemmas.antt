-- Ascending lists: their first elements, and that their elements determine them.
use Rattle.std.proofs.Common.{◌≡◌, ◌↔◌, ◌⊎◌, List, [], ◌∷◌, ◌++◌, refl, sym, ap, ◌∙◌, subst, inl, inr}
use Rattle.std.proofs.lemmas.Bool.{true≢false}
use Rattle.std.proofs.lemmas.List.Elements.{Contains-append_right}
use Rattle.std.specs.List.{Contains}
use Rattle.std.specs.Cmp.{IsTotalOrder, tied_itself}
use Rattle.std.specs.Ordering.{is_lt}
use Rattle.std.specs.declared.cmp.Ordering.{Ordering}
use Rattle.std.specs.declared.cmp.Ordering.TheVariants.{Less}
use Rattle.reg_op.specs.Set.{Ascends}
use Rattle.reg_report.proofs.ConflictLemmas.{none_in, in_cons, in_head, in_tail}

abbrev pub Before : {K : Type 0} → (K → K → Ordering) → K → List K → Type 0
Before {K = K} R x ys = (y : K) → Contains ys y → R x y ≡ Less

module _ {K : Type 0} {R : K → K → Ordering} (o : IsTotalOrder R) where
  pub never_less : (x : K) → R x x ≡ Less → ⊥
  never_less x h = true≢false (sym (ap is_lt h) ∙ ap is_lt (tied_itself o x))

  pub first_before : (x : K) (ys : List K) → Ascends R (x ∷ ys) → Before R x ys
  first_before x [] h y c = absurd (none_in y c)
  first_before x (z ∷ zs) h y c = elim (in_cons y z zs c) [
    | inl e ↦ subst (λ k. R x k ≡ Less) (sym e) h.0
    | inr d ↦ o.trans x z y h.0 (first_before z zs h.1 y d)
  ]

  pub rest_ascends : (x : K) (ys : List K) → Ascends R (x ∷ ys) → Ascends R ys
  rest_ascends x [] h = tt
  rest_ascends x (z ∷ zs) h = h.1

  pub put_before : (x : K) (ys : List K) → Before R x ys → Ascends R ys → Ascends R (x ∷ ys)
  put_before x [] h up = tt
  put_before x (z ∷ zs) h up = (h z (in_head z zs), up)

  -- ascending lists with the same elements are equal
  pub same_elements : (xs ys : List K) → Ascends R xs → Ascends R ys → ((x : K) → Contains xs x ↔ Contains ys x) → xs ≡ ys
  same_elements [] [] a b same = refl
  same_elements [] (y ∷ ys) a b same = absurd (none_in y ((same y).1 (in_head y ys)))
  same_elements (x ∷ xs) [] a b same = absurd (none_in x ((same x).0 (in_head x xs)))
  same_elements (x ∷ xs) (y ∷ ys) a b same =
      let first : x ≡ y = heads (in_cons x y ys ((same x).0 (in_head x xs))) (in_cons y x xs ((same y).1 (in_head y ys))) in
      let others : xs ≡ ys = same_elements xs ys (rest_ascends x xs a) (rest_ascends y ys b) (λ z. (λ h. left first z h (in_cons z y ys ((same z).0 (in_tail z x xs h))), λ h. right first z h (in_cons z x xs ((same z).1 (in_tail z y ys h))))) in
      λ j. first j ∷ others j
    where
      heads : (x ≡ y) ⊎ Contains ys x → (y ≡ x) ⊎ Contains xs y → x ≡ y
      heads (inl e) q = e
      heads (inr c) (inl e) = sym e
      heads (inr c) (inr d) = absurd (never_less x (o.trans x y x (first_before x xs a y d) (first_before y ys b x c)))

      left : x ≡ y → (z : K) → Contains xs z → (z ≡ y) ⊎ Contains ys z → Contains ys z
      left e z h (inl is) = absurd (never_less x (subst (λ k. R x k ≡ Less) (is ∙ sym e) (first_before x xs a z h)))
      left e z h (inr c) = c

      right : x ≡ y → (z : K) → Contains ys z → (z ≡ x) ⊎ Contains xs z → Contains xs z
      right e z h (inl is) = absurd (never_less y (subst (λ k. R y k ≡ Less) (is ∙ e) (first_before y ys b z h)))
      right e z h (inr c) = c

-- in an ascending list, each element before x is less than x
pub before_it : {K : Type 0} {R : K → K → Ordering} (o : IsTotalOrder R) (done : List K) (x : K) (others : List K) → Ascends R (done ++ x ∷ others)
    → (y : K) → Contains done y → R y x ≡ Less
before_it o [] x others up y h = absurd (none_in y h)
before_it {R = R} o (d ∷ done) x others up y h = elim (in_cons y d done h) [
  | inl e ↦ subst (λ k. R k x ≡ Less) (sym e) (first_before o d (done ++ x ∷ others) up x (Contains-append_right done (x ∷ others) x (in_head x others)))
  | inr later ↦ before_it o done x others (rest_ascends o d (done ++ x ∷ others) up) y later
]
