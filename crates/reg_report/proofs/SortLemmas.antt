-- Sorting a list and removing its repeated elements gives the items of its set.
use Rattle.std.proofs.Common.{◌≡◌, ◌↔◌, ◌+◌, nat_eq, Bool, true, false, ◌&&◌, ◌||◌, cond, List, [], ◌∷◌, get_or, suc, refl, sym, ap, ◌∙◌, subst, arith}
use Rattle.std.proofs.lemmas.Bool.{true≢false, and_parts, and_from, eqb-true, eq-eqb}
use Rattle.std.proofs.lemmas.Cmp.{nat_list_cmp_total}
use Rattle.std.specs.Cmp.Lexicographic.{pointwise, same_text, texts_ties}
use Rattle.reg_op.specs.Ids.{Id}
use Rattle.std.proofs.lemmas.List.Sorted.{list_any-IsPermutation}
use Rattle.std.specs.List.{list_any, dedup_from, dedup}
use Rattle.std.specs.List.Sorted.{IsSorted, IsPermutation}
use Rattle.std.specs.declared.cmp.Ordering.{Ordering}
use Rattle.std.specs.declared.cmp.Ordering.TheVariants.{Less}
use Rattle.std.specs.Ordering.{is_lt, is_eq, eq_by_cmp}
use Rattle.std.specs.Cmp.{IsTotalOrder, Equal-is, tied_itself}
use Rattle.reg_op.specs.Set as set
use Rattle.reg_op.specs.Set.{IsAntisymmetric, Ascends, items-from_list, same_set, contains-from_list}
use Rattle.reg_op.proofs.SetLemmas.{less}
use Rattle.reg_op.proofs.ClashLemmas.{tied_of}

pub or_again : (a b : Bool) → (a || b) ≡ (a || (a || b))
or_again true b = refl
or_again false b = refl

module _ {K : Type 0} {R : K → K → Ordering} (o : IsTotalOrder R) (same : IsAntisymmetric R) (E : K → K → Bool) (exact : (x y : K) → (E x y ≡ true) ↔ (x ≡ y)) where
  abbrev Rises : K → List K → Type 0
  Rises k [] = Unit {0}
  Rises k (x ∷ xs) = (is_lt (R x k) ≡ false) × Rises x xs

  rises_from : (k : K) (xs : List K) → IsSorted R (k ∷ xs) → Rises k xs
  rises_from k [] h = tt
  rises_from k (x ∷ xs) h = (
    h 0 k (omega arith) (omega arith),
    rises_from x xs (λ i d a b.
        let e : suc i + 1 ≡ suc (i + 1) = omega arith in
        subst (λ m. is_lt (R (get_or (k ∷ x ∷ xs) m d) (get_or (x ∷ xs) i d)) ≡ false) e (h (suc i) d (omega arith) (omega arith))),
  )

  any-dedup : (t : K → Bool) (k : K) (xs : List K) → list_any t (dedup_from E k xs) ≡ (t k || list_any t xs)
  any-dedup t k [] = refl
  any-dedup t k (x ∷ xs) =
      elim (E x k) as (λ b. E x k ≡ b → list_any t (cond b (dedup_from E k xs) (k ∷ dedup_from E x xs)) ≡ (t k || (t x || list_any t xs))) [
        | true ↦ λ e. any-dedup t k xs ∙ or_again (t k) (list_any t xs) ∙ (λ j. t k || (t (sym ((exact x k).0 e) j) || list_any t xs))
        | false ↦ λ e. ap (λ b. t k || b) (any-dedup t x xs)
      ] refl

  ascends_after : (k x : K) (xs : List K) → R k x ≡ Less → Ascends R (dedup_from E x xs) → Ascends R (k ∷ dedup_from E x xs)
  ascends_after k x [] h a = (h, tt)
  ascends_after k x (y ∷ ys) h a =
      elim (E y x) as (λ b. Ascends R (cond b (dedup_from E x ys) (x ∷ dedup_from E y ys)) → Ascends R (k ∷ cond b (dedup_from E x ys) (x ∷ dedup_from E y ys))) [
        | true ↦ λ a. ascends_after k x ys h a
        | false ↦ λ a. (h, a)
      ] a

  below : (k x : K) → is_lt (R x k) ≡ false → E x k ≡ false → R k x ≡ Less
  below k x h e =
      elim (is_lt (R k x)) as (λ b. is_lt (R k x) ≡ b → R k x ≡ Less) [
        | true ↦ λ l. less (R k x) l
        | false ↦ λ l. absurd (true≢false (sym ((exact x k).1 (same x k ((Equal-is (R x k)).0 (tied_of o x k h l)))) ∙ e))
      ] refl

  ascends_from : (k : K) (xs : List K) → Rises k xs → Ascends R (dedup_from E k xs)
  ascends_from k [] h = tt
  ascends_from k (x ∷ xs) h =
      elim (E x k) as (λ b. E x k ≡ b → Ascends R (cond b (dedup_from E k xs) (k ∷ dedup_from E x xs))) [
        | true ↦ λ e. ascends_from k xs (subst (λ y. Rises y xs) ((exact x k).0 e) h.1)
        | false ↦ λ e. ascends_after k x xs (below k x h.0 e) (ascends_from x xs h.1)
      ] refl

  dedup_ascends : (xs : List K) → IsSorted R xs → Ascends R (dedup E xs)
  dedup_ascends [] h = tt
  dedup_ascends (x ∷ xs) h = ascends_from x xs (rises_from x xs h)

  any-of_dedup : (t : K → Bool) (xs : List K) → list_any t (dedup E xs) ≡ list_any t xs
  any-of_dedup t [] = refl
  any-of_dedup t (x ∷ xs) = any-dedup t x xs

  pub sorted_items : (xs ys zs : List K) → IsPermutation xs ys → IsSorted R ys → zs ≡ dedup E ys → zs ≡ set.items (set.from_list {R = R} xs)
  sorted_items xs ys zs p h e =
      e ∙ sym (items-from_list o (dedup E ys) (dedup_ascends ys h))
      ∙ ap set.items (same_set o same (set.from_list (dedup E ys)) (set.from_list xs) (λ q.
      contains-from_list o (dedup E ys) q ∙ any-of_dedup (eq_by_cmp R q) ys ∙ sym (list_any-IsPermutation (eq_by_cmp R q) xs ys p) ∙ sym (contains-from_list o xs q)))

-- comparing the bytes and the counts of two ids decides whether they are equal
pub ids_exact : (x y : Id) → ((pointwise nat_eq x.replica y.replica && nat_eq x.count y.count) ≡ true) ↔ (x ≡ y)
ids_exact x y = (
  λ h.
      let p = and_parts _ _ h in
      let replica : x.replica ≡ y.replica = same_text x.replica y.replica (sym p.0) in
      let count : x.count ≡ y.count = eqb-true x.count y.count p.1 in
      λ j. record { replica = replica j; count = count j },
  λ e. subst (λ z. (pointwise nat_eq x.replica z.replica && nat_eq x.count z.count) ≡ true) e
      (and_from _ _ (texts_ties x.replica x.replica ∙ ap is_eq (tied_itself nat_list_cmp_total x.replica)) (eq-eqb x.count x.count refl)),
)
