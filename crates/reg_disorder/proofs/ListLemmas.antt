-- Entries of rows: one row after another, and in order.
use Rattle.std.proofs.Common.{◌≡◌, ◌↔◌, ◌+◌, ◌<◌, Bool, true, false, cond, IsTrue, List, [], ◌∷◌, ◌++◌, map, length, get_or, refl, sym, ap, subst, inl, inr, arith}
use Rattle.std.proofs.lemmas.Bool.{true≢false}
use Rattle.std.proofs.lemmas.List.{get_or-map, length-map}
use Rattle.std.proofs.lemmas.List.Elements.{Contains-append_left, Contains-push, Contains-push_cases}
use Rattle.std.proofs.lemmas.List.Sorted.{ranks_by}
use Rattle.std.specs.List.{Contains, dedup_from, dedup}
use Rattle.std.specs.List.Sorted.{IsSortedBy}
use Rattle.std.specs.Cmp.{IsTotalOrder, IsStrictWeakOrder, Equal-is, then_total, on_total, tied_itself}
use Rattle.std.specs.Ordering.{is_lt, is_eq}
use Rattle.std.specs.declared.cmp.Ordering.{Ordering}
use Rattle.reg_op.specs.Set.{IsAntisymmetric}
use Rattle.reg_op.specs.Ids.{id_cmp}
use Rattle.reg_op.specs.Rows.{Row}
use Rattle.reg_op.proofs.OpLemmas.{id_total, id_exact, both_equal}
use Rattle.reg_report.specs.Conflicts.{key_cmp}
use Rattle.reg_report.proofs.ConflictLemmas.{none_in, key_total, key_exact}
use Rattle.reg_disorder.specs.Disorders.{Keyed, keyed_cmp}
use Rattle.reg_disorder.specs.Lists.{listed_seen, IsLineOf, Adds, AreOf}

-- ---- one more row

pub of_none : (P : Row → Type 0) → AreOf P [] []
of_none P = record { each = λ l h. absurd (none_in l h); all = λ r h p. absurd (none_in r h) }

module _ (P : Row → Type 0) (rs : List Row) (r : Row) where
  pub of_more : (wanted : Bool) (old new : List Keyed) → IsTrue wanted ↔ P r → Adds wanted r old new → AreOf P rs old → AreOf P (rs ++ r ∷ []) new
  of_more true old new is (l, line, same) are = record {
    each = λ m h. elim (Contains-push_cases old l m (subst (λ ls. Contains ls m) same h)) [
      | inl early ↦ let f = are.each m early in (f.0, Contains-append_left rs (r ∷ []) f.0 f.1, f.2, f.3)
      | inr last ↦ (r, Contains-push rs r, is.0 refl, subst (IsLineOf r) last line)
    ];
    all = λ q h p. elim (Contains-push_cases rs r q h) [
      | inl early ↦ let f = are.all q early p in (f.0, subst (λ ls. Contains ls f.0) (sym same) (Contains-append_left old (l ∷ []) f.0 f.1), f.2)
      | inr last ↦ (l, subst (λ ls. Contains ls l) (sym same) (Contains-push old l), subst (λ x. IsLineOf x l) last line)
    ];
  }
  of_more false old new is same are = record {
    each = λ m h. let f = are.each m (subst (λ ls. Contains ls m) same h) in (f.0, Contains-append_left rs (r ∷ []) f.0 f.1, f.2, f.3);
    all = λ q h p. elim (Contains-push_cases rs r q h) [
      | inl early ↦ let f = are.all q early p in (f.0, subst (λ ls. Contains ls f.0) (sym same) f.1, f.2)
      | inr last ↦ absurd (true≢false (sym (is.1 (subst P (sym last) p))))
    ];
  }

-- ---- the order

pub keyed_total : IsTotalOrder keyed_cmp
keyed_total = then_total (on_total (λ (l : Keyed). l.key) key_total) (on_total (λ (l : Keyed). l.entry) id_total)

pub keyed_exact : IsAntisymmetric keyed_cmp
keyed_exact a b e =
    let p = both_equal (key_cmp a.key b.key) (id_cmp a.entry b.entry) e in
    let key : a.key ≡ b.key = key_exact a.key b.key p.0 in
    let entry : a.entry ≡ b.entry = id_exact a.entry b.entry p.1 in
    λ j. record { key = key j; entry = entry j }

pub by_order : IsStrictWeakOrder (λ a b. is_lt (keyed_cmp (listed_seen a) (listed_seen b)))
by_order = ranks_by keyed_total listed_seen

-- ---- lists that are seen otherwise

module _ {X Y : Type 0} (f : X → Y) where
  pub sorted_map : (lt : Y → Y → Bool) (xs : List X) → IsSortedBy (λ a b. lt (f a) (f b)) xs → IsSortedBy lt (map f xs)
  sorted_map lt [] up k d low high = absurd (omega (arith, high))
  sorted_map lt (x ∷ xs) up k d low high =
      let there : k + 1 < length (x ∷ xs) = omega (arith, high, length-map (x ∷ xs) f) in
      subst (λ y. lt (get_or (map f (x ∷ xs)) (k + 1) d) y ≡ false) (sym (get_or-map f (x ∷ xs) k x d (omega (arith, there))))
      (subst (λ y. lt y (f (get_or (x ∷ xs) k x)) ≡ false) (sym (get_or-map f (x ∷ xs) (k + 1) x d there)) (up k x low there))

  module _ (E : Y → Y → Bool) where
    dedup_map_from : (k : X) (xs : List X) → map f (dedup_from (λ a b. E (f a) (f b)) k xs) ≡ dedup_from E (f k) (map f xs)
    dedup_map_from k [] = refl
    dedup_map_from k (x ∷ xs) =
        elim (E (f x) (f k)) as (λ b. map f (cond b (dedup_from (λ a c. E (f a) (f c)) k xs) (k ∷ dedup_from (λ a c. E (f a) (f c)) x xs)) ≡ cond b (dedup_from E (f k) (map f xs)) (f k ∷ dedup_from E (f x) (map f xs))) [
          | true ↦ dedup_map_from k xs
          | false ↦ ap (λ l. f k ∷ l) (dedup_map_from x xs)
        ]

    pub dedup_map : (xs : List X) → map f (dedup (λ a b. E (f a) (f b)) xs) ≡ dedup E (map f xs)
    dedup_map [] = refl
    dedup_map (x ∷ xs) = dedup_map_from x xs

-- an order that is exact says whether two are the same
pub exact_of : {K : Type 0} {R : K → K → Ordering} → IsTotalOrder R → IsAntisymmetric R → (a b : K) → (is_eq (R a b) ≡ true) ↔ (a ≡ b)
exact_of {R = R} o same a b = (λ h. same a b ((Equal-is (R a b)).0 h), λ e. subst (λ c. is_eq (R a c) ≡ true) e (ap is_eq (tied_itself o a)))
