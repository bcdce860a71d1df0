-- Laws of finite sets: `any`, the union, and the members that no member is above.
use Rattle.std.proofs.Common.{◌≡◌, Bool, true, false, not, ◌&&◌, ◌||◌, cond, List, [], ◌∷◌, refl, sym, ap, ◌∙◌, subst, inl, inr, ◌⊎◌}
use Rattle.std.proofs.lemmas.Bool.{or_cases, or_left, or_right, and_from, and_parts, not_from_false, false_from_ne_true, true≢false}
use Rattle.std.proofs.Math.Bool.{or_assoc, or_comm, or_self, or_self_left}
use Rattle.std.specs.List.{list_any}
use Rattle.std.specs.declared.cmp.Ordering.{Ordering}
use Rattle.std.specs.Ordering.{eq_by_cmp, is_eq}
use Rattle.std.specs.Cmp.{IsTotalOrder, both_ways, Equal-is, tied_itself}
use Rattle.reg_op.specs.Set as set
use Rattle.reg_op.specs.Set.{Set, IsAntisymmetric, contains, items, union, contains-items, contains-union, contains-retain, contains-empty, same_set}
use Rattle.reg_op.specs.Finite.{any, topmost}

and_again : (a b : Bool) → ((a && b) && b) ≡ (a && b)
and_again true true = refl
and_again true false = refl
and_again false b = refl

or_four : (a b c d : Bool) → ((a || b) || (c || d)) ≡ ((a || c) || (b || d))
or_four true b c d = refl
or_four false true true d = refl
or_four false true false d = refl
or_four false false c d = refl

pub list_any-or : {K : Type 0} (f g : K → Bool) (xs : List K) → list_any (λ x. f x || g x) xs ≡ (list_any f xs || list_any g xs)
list_any-or f g [] = refl
list_any-or f g (x ∷ xs) = ap (λ b. (f x || g x) || b) (list_any-or f g xs) ∙ or_four (f x) (g x) _ _

module _ {K : Type 0} {R : K → K → Ordering} (o : IsTotalOrder R) (same : IsAntisymmetric R) where
  pub among : (t : K → Bool) (xs : List K) (x : K) → list_any (eq_by_cmp R x) xs ≡ true → t x ≡ true → list_any t xs ≡ true
  among t [] x h p = h
  among t (y ∷ ys) x h p =
      elim (or_cases (eq_by_cmp R x y) _ h) [
        | inl e ↦ or_left (t y) _ (subst (λ z. t z ≡ true) (same x y ((Equal-is (R x y)).0 e)) p)
        | inr e ↦ or_right (t y) _ (among t ys x e p)
      ]

  pub some_of : (t : K → Bool) (xs : List K) → list_any t xs ≡ true → (x : K) × (list_any (eq_by_cmp R x) xs ≡ true) × (t x ≡ true)
  some_of t [] h = absurd (true≢false (sym h))
  some_of t (y ∷ ys) h =
      elim (or_cases (t y) _ h) [
        | inl e ↦ (y, or_left (eq_by_cmp R y y) _ (ap is_eq (tied_itself o y)), e)
        | inr e ↦ let r = some_of t ys e in (r.0, or_right (eq_by_cmp R r.0 y) _ r.1, r.2)
      ]

  -- `any` is true if some member passes, and only then
  pub any_from_member : (t : K → Bool) (s : Set R) (x : K) → contains s x ≡ true → t x ≡ true → any t s ≡ true
  any_from_member t s x m p = among t (items s) x (sym (contains-items s x) ∙ m) p

  pub member_from_any : (t : K → Bool) (s : Set R) → any t s ≡ true → (x : K) × (contains s x ≡ true) × (t x ≡ true)
  member_from_any t s h = let r = some_of t (items s) h in (r.0, contains-items s r.0 ∙ r.1, r.2)

  pub any-union : (t : K → Bool) (s u : Set R) → any t (union s u) ≡ (any t s || any t u)
  any-union t s u =
      both_ways _ _
      (λ h. let r = member_from_any t (union s u) h in
      elim (or_cases (contains s r.0) (contains u r.0) (sym (contains-union o s u r.0) ∙ r.1)) [
        | inl e ↦ or_left (any t s) (any t u) (any_from_member t s r.0 e r.2)
        | inr e ↦ or_right (any t s) (any t u) (any_from_member t u r.0 e r.2)
      ])
      (λ h. elim (or_cases (any t s) (any t u) h) [
        | inl e ↦ let r = member_from_any t s e in any_from_member t (union s u) r.0 (contains-union o s u r.0 ∙ or_left _ _ r.1) r.2
        | inr e ↦ let r = member_from_any t u e in any_from_member t (union s u) r.0 (contains-union o s u r.0 ∙ or_right _ _ r.1) r.2
      ])

  -- ---- laws of the union

  pub union_comm : (s t : Set R) → union s t ≡ union t s
  union_comm s t = same_set o same _ _ (λ x. contains-union o s t x ∙ or_comm (contains s x) (contains t x) ∙ sym (contains-union o t s x))

  pub union_assoc : (s t u : Set R) → union (union s t) u ≡ union s (union t u)
  union_assoc s t u = same_set o same _ _ (λ x.
      contains-union o (union s t) u x ∙ ap (λ b. b || contains u x) (contains-union o s t x) ∙ or_assoc (contains s x) (contains t x) (contains u x)
      ∙ sym (contains-union o s (union t u) x ∙ ap (λ b. contains s x || b) (contains-union o t u x)))

  pub union_again : (s t : Set R) → union s (union s t) ≡ union s t
  union_again s t = same_set o same _ _ (λ x.
      contains-union o s (union s t) x ∙ ap (λ b. contains s x || b) (contains-union o s t x) ∙ or_self_left (contains s x) (contains t x) ∙ sym (contains-union o s t x))

  pub union_itself : (s : Set R) → union s s ≡ s
  union_itself s = same_set o same _ _ (λ x. contains-union o s s x ∙ or_self (contains s x))

  pub union-empty : (s : Set R) → union set.empty s ≡ s
  union-empty s = same_set o same _ _ (λ x. contains-union o set.empty s x ∙ ap (λ b. b || contains s x) (contains-empty R x))

  module _ (above : K → K → Bool) (irreflexive : (x : K) → above x x ≡ true → ⊥)
      (transitive : (x y z : K) → above x y ≡ true → above y z ≡ true → above x z ≡ true) where
    -- starting with m, each element of the list that is above the current one becomes the current one; the result is the last
    abbrev top : K → List K → K
    top m [] = m
    top m (x ∷ xs) = top (cond (above x m) x m) xs

    AtOrAbove : K → K → Type 0
    AtOrAbove x m = (x ≡ m) ⊎ (above x m ≡ true)

    top_rises : (m : K) (xs : List K) → (top m xs ≡ m) ⊎ (above (top m xs) m ≡ true)
    top_rises m [] = inl refl
    top_rises m (x ∷ xs) =
        elim (above x m) as (λ b. above x m ≡ b → (top (cond b x m) xs ≡ m) ⊎ (above (top (cond b x m) xs) m ≡ true)) [
          | true ↦ λ up. elim (top_rises x xs) [
            | inl e ↦ inr (subst (λ y. above y m ≡ true) (sym e) up)
            | inr e ↦ inr (transitive _ x m e up)
          ]
          | false ↦ λ _. top_rises m xs
        ] refl

    top_among : (m : K) (xs : List K) → (top m xs ≡ m) ⊎ (list_any (eq_by_cmp R (top m xs)) xs ≡ true)
    top_among m [] = inl refl
    top_among m (x ∷ xs) =
        elim (above x m) as (λ b. (top (cond b x m) xs ≡ m) ⊎ ((eq_by_cmp R (top (cond b x m) xs) x || list_any (eq_by_cmp R (top (cond b x m) xs)) xs) ≡ true)) [
          | true ↦ elim (top_among x xs) [
            | inl e ↦ inr (or_left _ _ (subst (λ y. eq_by_cmp R y x ≡ true) (sym e) (ap is_eq (tied_itself o x))))
            | inr e ↦ inr (or_right _ _ e)
          ]
          | false ↦ elim (top_among m xs) [
            | inl e ↦ inl e
            | inr e ↦ inr (or_right _ _ e)
          ]
        ]

    -- no element of the list is above `top m xs`
    top_free : (m : K) (xs : List K) → list_any (λ p. above p (top m xs)) xs ≡ true → ⊥
    top_free m [] h = true≢false (sym h)
    top_free m (x ∷ xs) h =
        elim (above x m) as (λ b. above x m ≡ b → (above x (top (cond b x m) xs) || list_any (λ p. above p (top (cond b x m) xs)) xs) ≡ true → ⊥) [
          | true ↦ λ up h. elim (or_cases (above x (top x xs)) _ h) [
            | inl e ↦ elim (top_rises x xs) [
              | inl is ↦ irreflexive x (subst (λ y. above x y ≡ true) is e)
              | inr over ↦ irreflexive x (transitive x _ x e over)
            ]
            | inr e ↦ top_free x xs e
          ]
          | false ↦ λ down h. elim (or_cases (above x (top m xs)) _ h) [
            | inl e ↦ elim (top_rises m xs) [
              | inl is ↦ true≢false (sym (subst (λ y. above x y ≡ true) is e) ∙ down)
              | inr over ↦ true≢false (sym (transitive x _ m e over) ∙ down)
            ]
            | inr e ↦ top_free m xs e
          ]
        ] refl h

    pub contains-topmost : (s : Set R) (x : K) → contains (topmost above s) x ≡ (contains s x && not (any (λ p. above p x) s))
    contains-topmost s x = contains-retain s _ x (λ y e. ap (λ z. not (any (λ p. above p z) s)) (sym (same x y e)))

    -- each member is topmost, or some topmost member is above it
    pub topmost_over : (s : Set R) (x : K) → contains s x ≡ true → (y : K) × (contains (topmost above s) y ≡ true) × ((y ≡ x) ⊎ (above y x ≡ true))
    topmost_over s x m =
        let y = top x (items s) in
        let here : contains s y ≡ true = elim (top_among x (items s)) [
          | inl e ↦ subst (λ z. contains s z ≡ true) (sym e) m
          | inr e ↦ contains-items s y ∙ e
        ] in
        (y, contains-topmost s y ∙ and_from _ _ here (not_from_false _ (false_from_ne_true _ (top_free x (items s)))), top_rises x (items s))

    -- for a test that passes upwards along `above`, some topmost member passes if and only if some member does
    pub any-topmost : (t : K → Bool) → ((p x : K) → above p x ≡ true → t x ≡ true → t p ≡ true) → (s : Set R) → any t (topmost above s) ≡ any t s
    any-topmost t rises s =
        both_ways _ _
        (λ h. let r = member_from_any t (topmost above s) h in any_from_member t s r.0 (and_parts _ _ (sym (contains-topmost s r.0) ∙ r.1)).0 r.2)
        (λ h. let r = member_from_any t s h in
        let y = topmost_over s r.0 r.1 in
        any_from_member t (topmost above s) y.0 y.1 (elim y.2 [
          | inl e ↦ subst (λ z. t z ≡ true) (sym e) r.2
          | inr e ↦ rises y.0 r.0 e r.2
        ]))

    pub topmost-topmost : (s : Set R) → topmost above (topmost above s) ≡ topmost above s
    topmost-topmost s = same_set o same _ _ (λ x.
        contains-topmost (topmost above s) x
        ∙ (λ i. contains-topmost s x i && not (any-topmost (λ p. above p x) (λ p y h k. transitive p y x h k) s i))
        ∙ and_again (contains s x) (not (any (λ p. above p x) s))
        ∙ sym (contains-topmost s x))

    mixed : (a b d e : Bool) → ((a || b) && not (d || e)) ≡ (((a && not d) || (b && not e)) && not (d || e))
    mixed true true true true = refl
    mixed true true true false = refl
    mixed true false true e = refl
    mixed true b false e = refl
    mixed false true true true = refl
    mixed false true false true = refl
    mixed false true true false = refl
    mixed false true false false = refl
    mixed false false d e = refl

    pub topmost-union : (s u : Set R) → topmost above (union s u) ≡ topmost above (union (topmost above s) (topmost above u))
    topmost-union s u = same_set o same _ _ (λ x.
        let any_of = any-union (λ p. above p x) in
        let up = any-topmost (λ p. above p x) (λ p y e f. transitive p y x e f) in
        contains-topmost (union s u) x
        ∙ (λ i. contains-union o s u x i && not (any_of s u i))
        ∙ mixed (contains s x) (contains u x) _ _
        ∙ sym (contains-topmost (union (topmost above s) (topmost above u)) x
        ∙ (λ i. contains-union o (topmost above s) (topmost above u) x i && not ((any_of (topmost above s) (topmost above u) ∙ (λ j. up s j || up u j)) i))
        ∙ (λ i. (contains-topmost s x i || contains-topmost u x i) && not (any (λ p. above p x) s || any (λ p. above p x) u))))
