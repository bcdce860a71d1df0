-- The items of a set ascend, and those of a retained part are the items that pass.
use Rattle.std.proofs.Common.{◌≡◌, Bool, true, false, ◌&&◌, ◌||◌, cond, T, List, [], ◌∷◌, map as list_map, refl, sym, ap, ◌∙◌}
use Rattle.std.proofs.lemmas.Bool.{true≢false, and_parts}
use Rattle.std.proofs.Math.Bool.{and-false}
use Rattle.std.specs.List.{list_any, filter}
use Rattle.std.specs.FinMap as map
use Rattle.std.specs.FinMap.Entries.{is_sorted, below_all}
use Rattle.std.specs.declared.cmp.Ordering.{Ordering}
use Rattle.std.specs.declared.cmp.Ordering.TheVariants.{Less, Equal, Greater}
use Rattle.std.specs.Ordering.{is_lt, eq_by_cmp}
use Rattle.std.specs.Cmp.{IsTotalOrder, Equal-is}
use Rattle.reg_op.specs.Set as set
use Rattle.reg_op.specs.Set.{Set, IsAntisymmetric, Ascends, items, retain, contains-items, contains-retain, contains-from_list, items-from_list, same_set}

pub T_true : (b : Bool) → T b → b ≡ true
T_true true h = refl
T_true false h = absurd h

pub less : (r : Ordering) → is_lt r ≡ true → r ≡ Less
less Less h = refl
less Equal h = absurd (true≢false (sym h))
less Greater h = absurd (true≢false (sym h))

module _ {K : Type 0} (R : K → K → Ordering) where
  -- AllAbove: k is below each element. Climbs: each element is below all that follow it
  abbrev pub AllAbove : K → List K → Type 0
  AllAbove k [] = Unit {0}
  AllAbove k (x ∷ xs) = (is_lt (R k x) ≡ true) × AllAbove k xs

  abbrev pub Climbs : List K → Type 0
  Climbs [] = Unit {0}
  Climbs (x ∷ xs) = AllAbove x xs × Climbs xs

  climbing_entries : (es : List (K × Unit {0})) → is_sorted R es ≡ true → Climbs (list_map (λ e. e.0) es)
  climbing_entries [] h = tt
  climbing_entries (e ∷ es) h = let p = and_parts _ _ h in (above e.0 es p.0, climbing_entries es p.1)
    where
      above : (k : K) (es : List (K × Unit {0})) → below_all R k es ≡ true → AllAbove k (list_map (λ e. e.0) es)
      above k [] h = tt
      above k (e ∷ es) h = let p = and_parts _ _ h in (p.0, above k es p.1)

  pub items_climb : (s : Set R) → Climbs (items s)
  items_climb s = climbing_entries (map.entries s) (T_true _ (map.entries_sorted s))

  AllAbove-filter : (p : K → Bool) (k : K) (xs : List K) → AllAbove k xs → AllAbove k (filter p xs)
  AllAbove-filter p k [] h = tt
  AllAbove-filter p k (x ∷ xs) h = elim (p x) as (λ b. AllAbove k (cond b (x ∷ filter p xs) (filter p xs))) [ true ↦ (h.0, AllAbove-filter p k xs h.1) | false ↦ AllAbove-filter p k xs h.1 ]

  Climbs-filter : (p : K → Bool) (xs : List K) → Climbs xs → Climbs (filter p xs)
  Climbs-filter p [] h = tt
  Climbs-filter p (x ∷ xs) h = elim (p x) as (λ b. Climbs (cond b (x ∷ filter p xs) (filter p xs))) [ true ↦ (AllAbove-filter p x xs h.0, Climbs-filter p xs h.1) | false ↦ Climbs-filter p xs h.1 ]

  pub climbing_ascends : (xs : List K) → Climbs xs → Ascends R xs
  climbing_ascends [] h = tt
  climbing_ascends (x ∷ []) h = tt
  climbing_ascends (x ∷ y ∷ zs) h = (less _ h.0.0, climbing_ascends (y ∷ zs) h.1)

  has-filter : IsAntisymmetric R → (p : K → Bool) (q : K) (xs : List K) → list_any (eq_by_cmp R q) (filter p xs) ≡ (list_any (eq_by_cmp R q) xs && p q)
  has-filter same p q [] = refl
  has-filter same p q (x ∷ xs) =
      let rest = has-filter same p q xs in
      elim (eq_by_cmp R q x) as (λ e. eq_by_cmp R q x ≡ e → list_any (eq_by_cmp R q) (cond (p x) (x ∷ filter p xs) (filter p xs)) ≡ ((e || list_any (eq_by_cmp R q) xs) && p q)) [
        | true ↦ λ e. let is : q ≡ x = same q x ((Equal-is (R q x)).0 e) in at (p x) (p q) (ap p (sym is)) e rest
        | false ↦ λ e. past (p x) e rest
      ] refl
    where
      at : (b c : Bool) → b ≡ c → eq_by_cmp R q x ≡ true → list_any (eq_by_cmp R q) (filter p xs) ≡ (list_any (eq_by_cmp R q) xs && c) → list_any (eq_by_cmp R q) (cond b (x ∷ filter p xs) (filter p xs)) ≡ c
      at true c f e rest = (λ k. e k || list_any (eq_by_cmp R q) (filter p xs)) ∙ f
      at false true f e rest = cc
      at false false f e rest = rest ∙ and-false _

      past : (b : Bool) → eq_by_cmp R q x ≡ false → list_any (eq_by_cmp R q) (filter p xs) ≡ (list_any (eq_by_cmp R q) xs && p q) → list_any (eq_by_cmp R q) (cond b (x ∷ filter p xs) (filter p xs)) ≡ (list_any (eq_by_cmp R q) xs && p q)
      past true e rest = (λ k. e k || list_any (eq_by_cmp R q) (filter p xs)) ∙ rest
      past false e rest = rest

  pub items-retain : IsTotalOrder R → IsAntisymmetric R → (s : Set R) (p : K → Bool) → items (retain s p) ≡ filter p (items s)
  items-retain o same s p =
      ap items (same_set o same (retain s p) (set.from_list (filter p (items s))) (λ q.
      contains-retain s p q (λ x e. ap p (sym (same q x e)))
      ∙ (λ k. contains-items s q k && p q)
      ∙ sym (contains-from_list o (filter p (items s)) q ∙ has-filter same p q (items s))))
      ∙ items-from_list o (filter p (items s)) (climbing_ascends _ (Climbs-filter p (items s) (items_climb s)))
