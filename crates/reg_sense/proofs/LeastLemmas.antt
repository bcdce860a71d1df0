-- The least of a list, one element at a time.
use Rattle.std.proofs.Common.{◌≡◌, ◌⊎◌, Bool, true, false, not, ◌||◌, cond, Option, Some, None, List, [], ◌∷◌, refl, sym, ap, ◌∙◌, subst, inl, inr}
use Rattle.std.proofs.lemmas.Bool.{true≢false, or_parts, or_from}
use Rattle.std.proofs.Math.Bool.{or-true}
use Rattle.std.specs.Cmp.{IsStrictWeakOrder}
use Rattle.std.specs.List.{find, list_any}
use Rattle.reg_sense.specs.Least.{least, lesser}

abbrev value_or : {X : Type 0} → X → Option X → X
value_or d None = d
value_or d (Some x) = x

-- ---- what is found

-- tests that agree find the same
pub found_alike : {X : Type 0} (p q : X → Bool) → ((x : X) → p x ≡ q x) → (xs : List X) → find p xs ≡ find q xs
found_alike p q same [] = refl
found_alike p q same (x ∷ xs) = λ j. cond (same x j) (Some x) (found_alike p q same xs j)

-- what is found passes the test
pub found_passes : {X : Type 0} (p : X → Bool) (xs : List X) (c : X) → find p xs ≡ Some c → p c ≡ true
found_passes p [] c e = cc
found_passes p (x ∷ xs) c e = elim (p x) as (λ b. p x ≡ b → p c ≡ true) [
  | true ↦ λ t. subst (λ y. p y ≡ true) (ap (value_or x) ((λ j. cond (sym t j) (Some x) (find p xs)) ∙ e)) t
  | false ↦ λ f. found_passes p xs c ((λ j. cond (sym f j) (Some x) (find p xs)) ∙ e)
] refl

-- and is in the list: a test that no element passes, it does not pass
pub found_within : {X : Type 0} (p q : X → Bool) (xs : List X) (c : X) → find p xs ≡ Some c → list_any q xs ≡ false → q c ≡ false
found_within p q [] c e none = cc
found_within p q (x ∷ xs) c e none = elim (p x) as (λ b. p x ≡ b → q c ≡ false) [
  | true ↦ λ t. subst (λ y. q y ≡ false) (ap (value_or x) ((λ j. cond (sym t j) (Some x) (find p xs)) ∙ e)) ((or_parts (q x) (list_any q xs) none).0)
  | false ↦ λ f. found_within p q xs c ((λ j. cond (sym f j) (Some x) (find p xs)) ∙ e) ((or_parts (q x) (list_any q xs) none).1)
] refl

-- ---- the least

module _ {X : Type 0} (less : X → X → Bool) (rank : IsStrictWeakOrder less) where
  -- whether some element is less than this one
  abbrev any : X → List X → Bool
  any t xs = list_any (λ y. less y t) xs

  never : (x : X) → less x x ≡ false
  never x = elim (less x x) as (λ b. less x x ≡ b → less x x ≡ false) [ true ↦ λ e. rank.one_way x x e | false ↦ λ e. e ] refl

  -- what no element is less than, and is not less than x
  carry : (xs : List X) (t x : X) → any t xs ≡ false → less t x ≡ false → any x xs ≡ false
  carry [] t x none e = refl
  carry (y ∷ ys) t x none e = let p = or_parts (less y t) (any t ys) none in or_from (less y x) (any x ys) (rank.chain y t x p.0 e) (carry ys t x p.1 e)

  -- an element is less than x, and none is less than t: then t is
  under : (xs : List X) (t x : X) → any x xs ≡ true → any t xs ≡ false → less t x ≡ true
  under xs t x some none = elim (less t x) as (λ b. less t x ≡ b → less t x ≡ true) [
    | true ↦ λ e. e
    | false ↦ λ e. absurd (true≢false (sym some ∙ carry xs t x none e))
  ] refl

  same_test : (xs : List X) (x : X) → any x xs ≡ true → (t : X) → not (less x t || any t xs) ≡ not (any t xs)
  same_test xs x some t = elim (any t xs) as (λ b. any t xs ≡ b → not (less x t || any t xs) ≡ not (any t xs)) [
    | true ↦ λ e. rw (e, or-true (less x t)) refl
    | false ↦ λ e. let f = rank.one_way t x (under xs t x some e) in rw (e, f) refl
  ] refl

  -- an element in front, given that there is a least of the others
  step : (x : X) (xs : List X) → (xs ≡ []) ⊎ ((c : X) × (least less xs ≡ Some c)) → least less (x ∷ xs) ≡ Some (lesser less x (least less xs))
  step x xs some = elim (any x xs) as (λ b. any x xs ≡ b → least less (x ∷ xs) ≡ Some (lesser less x (least less xs))) [
    | true ↦ λ e. lower e some
    | false ↦ λ e. (λ j. cond (not (never x j || e j)) (Some x) (find (λ t. not (less x t || any t xs)) xs)) ∙ stays e (least less xs) refl
  ] refl
    where
      stays : any x xs ≡ false → (o : Option X) → least less xs ≡ o → Some x ≡ Some (lesser less x (least less xs))
      stays e None is = (λ j. Some (lesser less x (sym is j)))
      stays e (Some c) is = (λ j. Some (cond (sym (found_within (λ t. not (any t xs)) (λ y. less y x) xs c is e) j) c x)) ∙ (λ j. Some (lesser less x (sym is j)))

      lower : any x xs ≡ true → (xs ≡ []) ⊎ ((c : X) × (least less xs ≡ Some c)) → least less (x ∷ xs) ≡ Some (lesser less x (least less xs))
      lower e (inl none) = absurd (true≢false (sym e ∙ ap (any x) none))
      lower e (inr (c, is)) =
          (λ j. cond (not (never x j || e j)) (Some x) (find (λ t. not (less x t || any t xs)) xs))
          ∙ found_alike (λ t. not (less x t || any t xs)) (λ t. not (any t xs)) (same_test xs x e) xs
          ∙ is
          ∙ (λ j. Some (cond (sym (under xs c x e (lowest c is)) j) c x))
          ∙ (λ j. Some (lesser less x (sym is j)))
        where
          lowest : (c : X) → least less xs ≡ Some c → any c xs ≡ false
          lowest c is = elim (any c xs) as (λ b. any c xs ≡ b → any c xs ≡ false) [
            | true ↦ λ t. absurd (true≢false (sym (found_passes (λ t. not (any t xs)) xs c is) ∙ ap not t))
            | false ↦ λ f. f
          ] refl

  some_least : (xs : List X) → (xs ≡ []) ⊎ ((c : X) × (least less xs ≡ Some c))
  some_least [] = inl refl
  some_least (x ∷ xs) = inr (lesser less x (least less xs), step x xs (some_least xs))

  pub least_cons : (x : X) (xs : List X) → least less (x ∷ xs) ≡ Some (lesser less x (least less xs))
  least_cons x xs = step x xs (some_least xs)

-- ---- the same element again

cond_same : {X : Type 0} (b : Bool) (x : X) → cond b x x ≡ x
cond_same true x = refl
cond_same false x = refl

pub lesser_twice : {X : Type 0} (less : X → X → Bool) (x : X) (o : Option X) → lesser less x (Some (lesser less x o)) ≡ lesser less x o
lesser_twice less x None = cond_same (less x x) x
lesser_twice less x (Some c) = by (less c x) refl
  where
    by : (b : Bool) → less c x ≡ b → lesser less x (Some (cond b c x)) ≡ cond b c x
    by true e = (λ j. cond (e j) c x)
    by false e = cond_same (less x x) x
