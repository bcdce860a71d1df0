-- Lists that answer each test alike: some element of one passes it exactly if some element of the other does.
use Rattle.std.proofs.Common.{◌≡◌, ◌&&◌, ◌||◌, not, Bool, true, false, cond, is_some, Some, List, [], ◌∷◌, map, filter, refl, sym, ap, ◌∙◌}
use Rattle.std.proofs.lemmas.Bool.{true≢false, not-true}
use Rattle.std.proofs.lemmas.List.Folds.{list_any-append}
use Rattle.std.specs.Cmp.{IsStrictWeakOrder}
use Rattle.std.specs.List.{find, flat_map, list_any}
use Rattle.std.specs.Option.{option_map}
use Rattle.reg_sense.specs.Least.{least, lesser}
use Rattle.reg_sense.proofs.LeastLemmas.{found_passes, found_within, least_cons}

abbrev pub AreAlike : {X : Type 0} → List X → List X → Type 0
AreAlike {X} xs ys = (p : X → Bool) → list_any p xs ≡ list_any p ys

pub any_map : {X Y : Type 0} (f : X → Y) (p : Y → Bool) (xs : List X) → list_any p (map f xs) ≡ list_any (λ x. p (f x)) xs
any_map f p [] = refl
any_map f p (x ∷ xs) = ap (λ b. p (f x) || b) (any_map f p xs)

pub any_flat_map : {X Y : Type 0} (f : X → List Y) (p : Y → Bool) (xs : List X) → list_any p (flat_map f xs) ≡ list_any (λ x. list_any p (f x)) xs
any_flat_map f p [] = refl
any_flat_map f p (x ∷ xs) = list_any-append p (f x) (flat_map f xs) ∙ ap (λ b. list_any p (f x) || b) (any_flat_map f p xs)

pub any_filter : {X : Type 0} (q p : X → Bool) (xs : List X) → list_any p (filter q xs) ≡ list_any (λ x. q x && p x) xs
any_filter q p [] = refl
any_filter q p (x ∷ xs) = elim (q x) as (λ b. list_any p (cond b (x ∷ filter q xs) (filter q xs)) ≡ ((b && p x) || list_any (λ y. q y && p y) xs)) [
  | true ↦ ap (λ b. p x || b) (any_filter q p xs)
  | false ↦ any_filter q p xs
]

pub found_some : {X : Type 0} (p : X → Bool) (xs : List X) → is_some (find p xs) ≡ list_any p xs
found_some p [] = refl
found_some p (x ∷ xs) = elim (p x) as (λ b. is_some (cond b (Some x) (find p xs)) ≡ (b || list_any p xs)) [
  | true ↦ refl
  | false ↦ found_some p xs
]

-- ---- the least, but for what its key does not tell

module _ {X K : Type 0} (less : X → X → Bool) (rank : IsStrictWeakOrder less) (key : X → K) (tied : (x y : X) → less x y ≡ false → less y x ≡ false → key x ≡ key y) where
  lowest : (xs : List X) (c : X) → least less xs ≡ Some c → list_any (λ y. less y c) xs ≡ false
  lowest xs c is = not-true (list_any (λ y. less y c) xs) (found_passes (λ t. not (list_any (λ y. less y t) xs)) xs c is)

  -- an element that none is less than, beside the least of the others
  not_less : (xs ys : List X) (c d : X) → AreAlike xs ys → least less xs ≡ Some c → least less ys ≡ Some d → less c d ≡ false
  not_less xs ys c d same is also =
      found_within (λ t. not (list_any (λ y. less y t) xs)) (λ y. less y d) xs c is (same (λ y. less y d) ∙ lowest ys d also)

  one_key : (xs ys : List X) (c d : X) → AreAlike xs ys → least less xs ≡ Some c → least less ys ≡ Some d → key c ≡ key d
  one_key xs ys c d same is also = tied c d (not_less xs ys c d same is also) (not_less ys xs d c (λ p. sym (same p)) also is)

  pub same_least : (xs ys : List X) → AreAlike xs ys → option_map key (least less xs) ≡ option_map key (least less ys)
  same_least [] [] same = refl
  same_least [] (y ∷ ys) same = absurd (true≢false (sym (same (λ z. true))))
  same_least (x ∷ xs) [] same = absurd (true≢false (same (λ z. true)))
  same_least (x ∷ xs) (y ∷ ys) same =
      let c = lesser less x (least less xs) in
      let d = lesser less y (least less ys) in
      ap (option_map key) (least_cons less rank x xs)
      ∙ ap Some (one_key (x ∷ xs) (y ∷ ys) c d same (least_cons less rank x xs) (least_cons less rank y ys))
      ∙ sym (ap (option_map key) (least_cons less rank y ys))
