-- Among elements that are sorted by a key, those with one key stand between two partition points.
use Rattle.std.proofs.Common.{◌≡◌, ℕ, ◌+◌, ◌-◌, ◌<◌, ◌≤◌, Bool, true, false, not, ◌&&◌, ◌||◌, cond, List, [], ◌∷◌, ◌++◌, append-nil, length, get_or, take, drop, filter, suc, refl, sym, ap, ◌∙◌, subst, arith}
use Rattle.std.proofs.lemmas.Bool.{true≢false, not-true, true_from_ne_false, false_from_ne_true}
use Rattle.std.proofs.lemmas.List.{get_or-drop, get_or-take, length-take, length-drop, take-append-drop, take_rest}
use Rattle.std.proofs.lemmas.List.Elements.{filter-append}
use Rattle.std.proofs.lemmas.List.Sorted.{ranks_by, sorted_far, IsPartitionPoint-from_clause}
use Rattle.std.specs.List.{list_any}
use Rattle.std.specs.List.Sorted.{IsSorted, IsSortedByKey, IsPartitionedBy, IsPartitionPoint}
use Rattle.std.specs.Fn.{Called, ComputesKey}
use Rattle.std.specs.Cmp.{IsTotalOrder, IsStrictWeakOrder}
use Rattle.std.specs.Ordering.{is_lt, is_eq, ordering_then, ordering_reverse}
use Rattle.std.specs.declared.cmp.Ordering.{Ordering}
use Rattle.std.specs.declared.cmp.Ordering.TheVariants.{Less, Equal, Greater}
use denote.Param.Members.{Mut}
use denote.Ref.{Bor}

-- ---- a test that passes at each element, or at none

module _ {X : Type 0} (p : X → Bool) where
  none_of : (xs : List X) → ((i : ℕ) (d : X) → i < length xs → p (get_or xs i d) ≡ false) → filter p xs ≡ []
  none_of [] fails = refl
  none_of (x ∷ xs) fails = ap (λ b. cond b (x ∷ filter p xs) (filter p xs)) (fails 0 x (omega arith)) ∙ none_of xs (λ i d h. fails (suc i) d (omega (arith, h)))

  all_of : (xs : List X) → ((i : ℕ) (d : X) → i < length xs → p (get_or xs i d) ≡ true) → filter p xs ≡ xs
  all_of [] passes = refl
  all_of (x ∷ xs) passes = ap (λ b. cond b (x ∷ filter p xs) (filter p xs)) (passes 0 x (omega arith)) ∙ ap (λ l. x ∷ l) (all_of xs (λ i d h. passes (suc i) d (omega (arith, h))))

  -- a second test of what passes
  pub any_filter : (t : X → Bool) (xs : List X) → list_any t (filter p xs) ≡ list_any (λ x. p x && t x) xs
  any_filter t [] = refl
  any_filter t (x ∷ xs) =
      elim (p x) as (λ b. list_any t (cond b (x ∷ filter p xs) (filter p xs)) ≡ ((b && t x) || list_any (λ y. p y && t y) xs)) [
        | true ↦ ap (λ b. t x || b) (any_filter t xs)
        | false ↦ any_filter t xs
      ]

-- ---- the window between two partition points

module _ {X : Type 0} (below up same : X → Bool) (is : (x : X) → same x ≡ (not (below x) && up x)) (xs : List X) (low count : ℕ)
    (from : IsPartitionPoint (λ x. below x ≡ true) (λ x. below x ≡ false) xs low)
    (to : IsPartitionPoint (λ x. up x ≡ true) (λ x. up x ≡ false) (drop low xs) count) where
  past_low : (i : ℕ) (d : X) → i < length (drop low xs) → below (get_or (drop low xs) i d) ≡ false
  past_low i d h = ap below (get_or-drop low xs i d) ∙ from.1 (low + i) d (omega arith) (omega (arith, h, length-drop low xs))

  before : filter same (take low xs) ≡ []
  before = none_of same (take low xs) (λ i d h.
      let short : i < low = omega (arith, h, length-take low xs) in
      is _ ∙ (λ j. not (below (get_or-take low xs i d short j)) && up (get_or (take low xs) i d)) ∙ (λ j. not (from.0 i d (omega arith) short j) && up (get_or (take low xs) i d)))

  within : filter same (take count (drop low xs)) ≡ take count (drop low xs)
  within = all_of same (take count (drop low xs)) (λ i d h.
      let short : i < count = omega (arith, h, length-take count (drop low xs)) in
      let long : i < length (drop low xs) = omega (arith, h, length-take count (drop low xs)) in
      ap same (get_or-take count (drop low xs) i d short) ∙ is _ ∙ (λ j. not (past_low i d long j) && to.0 i d (omega arith) short j))

  after : filter same (drop count (drop low xs)) ≡ []
  after = none_of same (drop count (drop low xs)) (λ i d h.
      let long : count + i < length (drop low xs) = omega (arith, h, length-drop count (drop low xs)) in
      ap same (get_or-drop count (drop low xs) i d) ∙ is _ ∙ (λ j. not (past_low (count + i) d long j) && to.1 (count + i) d (omega arith) long j))

  between_is : take count (drop low xs) ≡ filter same xs
  between_is =
      sym (ap (filter same) (sym (take-append-drop low xs)) ∙ filter-append same (take low xs) (drop low xs)
      ∙ (λ j. before j ++ filter same (sym (take-append-drop count (drop low xs)) j))
      ∙ filter-append same (take count (drop low xs)) (drop count (drop low xs)) ∙ (λ j. within j ++ after j) ∙ append-nil (take count (drop low xs)))

-- ---- elements by key

lt_then : (a b : Ordering) → is_lt a ≡ true → is_lt (ordering_then a b) ≡ true
lt_then Less b h = refl
lt_then Equal b h = absurd (true≢false (sym h))
lt_then Greater b h = absurd (true≢false (sym h))

module _ {K : Type 0} (cmp : K → K → Ordering) (total : IsTotalOrder cmp) where
  -- keys are equal exactly if neither is less than the other
  pub tied_is : (a b : K) → is_eq (cmp a b) ≡ (not (is_lt (cmp b a)) && not (is_lt (cmp a b)))
  tied_is a b = by (cmp a b) refl
    where
      by : (o : Ordering) → cmp a b ≡ o → is_eq (cmp a b) ≡ (not (is_lt (cmp b a)) && not (is_lt (cmp a b)))
      by Less e = (λ j. is_eq (e j)) ∙ sym (λ j. not (is_lt ((total.antisymm b a ∙ ap ordering_reverse e) j)) && not (is_lt (e j)))
      by Equal e = (λ j. is_eq (e j)) ∙ sym (λ j. not (is_lt ((total.antisymm b a ∙ ap ordering_reverse e) j)) && not (is_lt (e j)))
      by Greater e = (λ j. is_eq (e j)) ∙ sym (λ j. not (is_lt ((total.antisymm b a ∙ ap ordering_reverse e) j)) && not (is_lt (e j)))

module _ {X K : Type 0} (key : X → K) (cmp : K → K → Ordering) (total : IsTotalOrder cmp) where
  -- a later element has no lesser key
  abbrev pub Ascends : List X → Type 0
  Ascends xs = (i j : ℕ) (d : X) → i ≤ j → j < length xs → is_lt (cmp (key (get_or xs j d)) (key (get_or xs i d))) ≡ false

  pub ascends_by_key : (xs : List X) → IsSortedByKey key cmp xs → Ascends xs
  ascends_by_key xs = sorted_far (λ a b. is_lt (cmp (key a) (key b))) (ranks_by total key) xs

  -- the key comes first in the order
  pub ascends_by_first : (rest : X → X → Ordering) → IsTotalOrder (λ a b. ordering_then (cmp (key a) (key b)) (rest a b)) → (xs : List X)
      → IsSorted (λ a b. ordering_then (cmp (key a) (key b)) (rest a b)) xs → Ascends xs
  ascends_by_first rest whole xs up i j d h l =
      false_from_ne_true _ (λ b.
      true≢false (sym (lt_then _ (rest (get_or xs j d) (get_or xs i d)) b)
      ∙ sorted_far (λ m n. is_lt (ordering_then (cmp (key m) (key n)) (rest m n))) (ranks_by whole (λ m. m)) xs up i j d h l))

  lt_key : IsStrictWeakOrder (λ a b. is_lt (cmp a b))
  lt_key = ranks_by total (λ a. a)

  module _ (k : K) (xs : List X) (up : Ascends xs) where
    below_parted : IsPartitionedBy (λ x. is_lt (cmp (key x) k)) xs
    below_parted i j d h l b = true_from_ne_false _ (λ n. true≢false (sym b ∙ lt_key.chain (key (get_or xs j d)) (key (get_or xs i d)) k (up i j d h l) n))

    up_to_parted : (low : ℕ) → IsPartitionedBy (λ x. not (is_lt (cmp k (key x)))) (drop low xs)
    up_to_parted low i j d h l b =
        subst (λ x. not (is_lt (cmp k (key x))) ≡ true) (sym (get_or-drop low xs i d))
        (ap not (lt_key.chain k (key (get_or xs (low + j) d)) (key (get_or xs (low + i) d))
        (not-true _ (subst (λ x. not (is_lt (cmp k (key x))) ≡ true) (get_or-drop low xs j d) b))
        (up (low + i) (low + j) d (omega arith) (omega (arith, length-drop low xs)))))

    -- what two calls of `partition_point` find, the second in the rest from the first on
    pub window_is : {F G : Type 0} {g : Mut F (Bor X × Unit {0}) Bool} {f : F} {g' : Mut G (Bor X × Unit {0}) Bool} {f' : G} (low count : ℕ)
        → ((q : X → Bool) → ComputesKey g q f → IsPartitionedBy q xs → IsPartitionPoint (λ y. q y ≡ true) (λ y. q y ≡ false) xs low)
        → ((a : Bor X × Unit {0}) (r : Bool) (n : F) → Called g f a r n → (r ≡ is_lt (cmp (key a.0.now) k)) × (n ≡ f))
        → ((q : X → Bool) → ComputesKey g' q f' → IsPartitionedBy q (take (length xs - low) (drop low xs)) → IsPartitionPoint (λ y. q y ≡ true) (λ y. q y ≡ false) (take (length xs - low) (drop low xs)) count)
        → ((a : Bor X × Unit {0}) (r : Bool) (n : G) → Called g' f' a r n → (r ≡ not (is_lt (cmp k (key a.0.now)))) × (n ≡ f'))
        → take count (take (length xs - low) (drop low xs)) ≡ filter (λ x. is_eq (cmp k (key x))) xs
    window_is low count parts says parts_rest says_rest =
        let below : X → Bool = λ x. is_lt (cmp (key x) k) in
        let up_to : X → Bool = λ x. not (is_lt (cmp k (key x))) in
        let rest : take (length xs - low) (drop low xs) ≡ drop low xs = take_rest xs low in
        let from = IsPartitionPoint-from_clause below xs low parts below_parted says in
        let to = IsPartitionPoint-from_clause up_to (take (length xs - low) (drop low xs)) count parts_rest (subst (IsPartitionedBy up_to) (sym rest) (up_to_parted low)) says_rest in
        ap (take count) rest
        ∙ between_is below up_to (λ x. is_eq (cmp k (key x))) (λ x. tied_is cmp total k (key x)) xs low count from (subst (λ l. IsPartitionPoint (λ x. up_to x ≡ true) (λ x. up_to x ≡ false) l count) rest to)
