-- In a list sorted by key, the elements with one key are contiguous: they follow those with lesser keys.
use Rattle.std.proofs.Common.{◌≡◌, ℕ, ◌+◌, ◌<◌, ◌≤◌, zero, suc, Bool, true, false, cond, List, [], ◌∷◌, length, get_or, take, drop, refl, sym, ap, ◌∙◌, zero-add, arith}
use Rattle.std.proofs.lemmas.Bool.{true≢false}
use Rattle.std.proofs.lemmas.Cmp.{nat_list_cmp_total}
use Rattle.std.specs.List.{prefix_len, AllWithin}
use Rattle.std.specs.List.Sorted.{IsPartitionedBy, IsPartitionPoint}
use Rattle.std.specs.declared.cmp.Ordering.{Ordering}
use Rattle.std.specs.declared.cmp.Ordering.TheVariants.{Less, Equal, Greater}
use Rattle.std.specs.Ordering.{nat_cmp, is_eq, is_lt, is_gt, ordering_reverse}
use Rattle.std.specs.Cmp.Lexicographic.{slice_cmp}

abbrev key_cmp : List ℕ → List ℕ → Ordering
key_cmp a b = slice_cmp nat_cmp a b

-- ---- the order of keys

not_greater : (a b q : List ℕ) → is_gt (key_cmp a b) ≡ false → is_lt (key_cmp b q) ≡ true → is_lt (key_cmp a q) ≡ true
not_greater a b q h k =
    elim (key_cmp a b) as (λ o. key_cmp a b ≡ o → is_gt o ≡ false → is_lt (key_cmp a q) ≡ true) [
      | Less ↦ λ e _. ap is_lt (nat_list_cmp_total.trans a b q e (less_of _ k))
      | Equal ↦ λ e _. ap is_lt (nat_list_cmp_total.congr a b q e) ∙ k
      | Greater ↦ λ _ g. absurd (true≢false g)
    ] refl h
  where
    less_of : (o : Ordering) → is_lt o ≡ true → o ≡ Less
    less_of Less h = refl
    less_of Equal h = absurd (true≢false (sym h))
    less_of Greater h = absurd (true≢false (sym h))

-- a key that is neither less than q nor equal to it is above q, and so is each key that is not less than that one
abbrev IsAbove : List ℕ → List ℕ → Type 0
IsAbove q b = key_cmp q b ≡ Less

above_of : (a q : List ℕ) → is_lt (key_cmp a q) ≡ false → is_eq (key_cmp a q) ≡ false → IsAbove q a
above_of a q l e =
    nat_list_cmp_total.antisymm q a ∙ elim (key_cmp a q) as (λ o. is_lt o ≡ false → is_eq o ≡ false → ordering_reverse o ≡ Less) [
      | Less ↦ λ l _. absurd (true≢false l)
      | Equal ↦ λ _ e. absurd (true≢false e)
      | Greater ↦ λ _ _. refl
    ] l e

above_more : (a b q : List ℕ) → is_gt (key_cmp a b) ≡ false → IsAbove q a → IsAbove q b
above_more a b q h k =
    elim (key_cmp a b) as (λ o. key_cmp a b ≡ o → is_gt o ≡ false → IsAbove q b) [
      | Less ↦ λ e _. nat_list_cmp_total.trans q a b k e
      | Equal ↦ λ e _. same e
      | Greater ↦ λ _ g. absurd (true≢false g)
    ] refl h
  where
    same : key_cmp a b ≡ Equal → IsAbove q b
    same e = nat_list_cmp_total.antisymm q b ∙ ap ordering_reverse (sym (nat_list_cmp_total.congr a b q e)) ∙ sym (nat_list_cmp_total.antisymm q a) ∙ k

not_at : (a q : List ℕ) → IsAbove q a → is_eq (key_cmp a q) ≡ false
not_at a q h = ap is_eq (nat_list_cmp_total.antisymm a q ∙ ap ordering_reverse h)

not_below : (a b q : List ℕ) → is_gt (key_cmp a b) ≡ false → is_lt (key_cmp a q) ≡ false → is_lt (key_cmp b q) ≡ false
not_below a b q h k =
    elim (is_lt (key_cmp b q)) as (λ t. is_lt (key_cmp b q) ≡ t → t ≡ false) [
      | true ↦ λ e. absurd (true≢false (sym (not_greater a b q h e) ∙ k))
      | false ↦ λ _. refl
    ] refl

below_not_at : (a q : List ℕ) → is_lt (key_cmp a q) ≡ true → is_eq (key_cmp a q) ≡ false
below_not_at a q h =
    elim (key_cmp a q) as (λ o. is_lt o ≡ true → is_eq o ≡ false) [
      | Less ↦ λ _. refl
      | Equal ↦ λ h. absurd (true≢false (sym h))
      | Greater ↦ λ _. refl
    ] h

-- ---- sums over a list

abbrev pub total : {X : Type 0} → (X → ℕ) → List X → ℕ
total w [] = 0
total w (x ∷ xs) = w x + total w xs

module _ {X : Type 0} (f : X → List ℕ) where
  -- the list is sorted: no key is greater than the next
  abbrev pub Rises : List X → Type 0
  Rises [] = Unit {0}
  Rises (x ∷ []) = Unit {0}
  Rises (x ∷ y ∷ ys) = (is_gt (key_cmp (f x) (f y)) ≡ false) × Rises (y ∷ ys)

  rises_later : (x : X) (xs : List X) → Rises (x ∷ xs) → Rises xs
  rises_later x [] h = tt
  rises_later x (y ∷ ys) h = h.1

  rises-drop : (a : ℕ) (xs : List X) → Rises xs → Rises (drop a xs)
  rises-drop zero xs h = h
  rises-drop (suc a) [] h = tt
  rises-drop (suc a) (x ∷ xs) h = rises-drop a xs (rises_later x xs h)

  module _ (q : List ℕ) where
    abbrev at : X → Bool
    at x = is_eq (key_cmp (f x) q)

    abbrev below : X → Bool
    below x = is_lt (key_cmp (f x) q)

    first_below : (x : X) (xs : List X) (j : ℕ) (d : X) → Rises (x ∷ xs) → j < length (x ∷ xs) → below (get_or (x ∷ xs) j d) ≡ true → below x ≡ true
    first_below x xs zero d h l b = b
    first_below x [] (suc j) d h l b = absurd (omega arith)
    first_below x (y ∷ ys) (suc j) d h l b = not_greater (f x) (f y) q h.0 (first_below y ys j d h.1 (omega arith) b)

    pub parted : (xs : List X) → Rises xs → IsPartitionedBy below xs
    parted [] h i j d le l b = absurd (omega arith)
    parted (x ∷ xs) h zero j d le l b = first_below x xs j d h l b
    parted (x ∷ xs) h (suc i) zero d le l b = absurd (omega arith)
    parted (x ∷ xs) h (suc i) (suc j) d le l b = parted xs (rises_later x xs h) i j d (omega arith) (omega arith) b

    module _ (w : X → ℕ) where
      abbrev weighed : X → ℕ
      weighed x = cond (at x) (w x) 0

      none_above : (x : X) (xs : List X) → Rises (x ∷ xs) → IsAbove q (f x) → total weighed xs ≡ 0
      none_above x [] h a = refl
      none_above x (y ∷ ys) h a =
          let b = above_more (f x) (f y) q h.0 a in
          ap (λ t. cond t (w y) 0 + total weighed ys) (not_at (f y) q b) ∙ zero-add (total weighed ys) ∙ none_above y ys h.1 b

      abbrev HeadIsNotBelow : List X → Type 0
      HeadIsNotBelow [] = Unit {0}
      HeadIsNotBelow (x ∷ xs) = below x ≡ false

      head_later : (x : X) (xs : List X) → Rises (x ∷ xs) → below x ≡ false → HeadIsNotBelow xs
      head_later x [] h b = tt
      head_later x (y ∷ ys) h b = not_below (f x) (f y) q h.0 b

      -- if the first key is not below q, the sum over the elements with key q is the sum over a prefix
      front : (xs : List X) → Rises xs → HeadIsNotBelow xs → total w (take (prefix_len at xs) xs) ≡ total weighed xs
      front [] h b = refl
      front (x ∷ xs) h b =
          elim (at x) as (λ t. at x ≡ t → total w (take (cond t (1 + prefix_len at xs) 0) (x ∷ xs)) ≡ cond t (w x) 0 + total weighed xs) [
            | true ↦ λ e. let one : 1 + prefix_len at xs ≡ suc (prefix_len at xs) = omega arith in
                ap (λ n. total w (take n (x ∷ xs))) one ∙ ap (λ n. w x + n) (front xs (rises_later x xs h) (head_later x xs h b))
            | false ↦ λ e. sym (zero-add (total weighed xs) ∙ none_above x xs h (above_of (f x) q b e))
          ] refl

      passed : (xs : List X) (a : ℕ) → AllWithin (λ y. below y ≡ true) xs 0 a → a ≤ length xs → total weighed xs ≡ total weighed (drop a xs)
      passed xs zero h l = refl
      passed [] (suc a) h l = absurd (omega arith)
      passed (x ∷ xs) (suc a) h l =
          ap (λ t. cond t (w x) 0 + total weighed xs) (below_not_at (f x) q (h 0 x (omega arith) (omega arith)))
          ∙ zero-add (total weighed xs) ∙ passed xs a (λ k d _ m. h (suc k) d (omega arith) (omega arith)) (omega arith)

      head_at : (xs : List X) (a : ℕ) → AllWithin (λ y. below y ≡ false) xs a (length xs) → HeadIsNotBelow (drop a xs)
      head_at [] zero h = tt
      head_at (x ∷ xs) zero h = h 0 x (omega arith) (omega arith)
      head_at [] (suc a) h = tt
      head_at (x ∷ xs) (suc a) h = head_at xs a (λ k d m n. h (suc k) d (omega arith) (omega arith))

      pub part : (xs : List X) (a : ℕ) → Rises xs → a ≤ length xs → IsPartitionPoint (λ y. below y ≡ true) (λ y. below y ≡ false) xs a
          → total w (take (prefix_len at (drop a xs)) (drop a xs)) ≡ total weighed xs
      part xs a h l point = front (drop a xs) (rises-drop a xs h) (head_at xs a point.1) ∙ sym (passed xs a point.0 l)
