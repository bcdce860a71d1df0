-- The ids of entries ascend, so they are distinct.
use Rattle.std.proofs.Common.{◌≡◌, true, false, cond, List, [], ◌∷◌, map, filter, sym, ap, subst, inl, inr}
use Rattle.std.specs.List.{Contains, AllByRecursion, IsDistinct}
use Rattle.std.specs.List.Sorted.{IsPermutation}
use Rattle.std.specs.Cmp.{eq_by_cmp_equiv}
use Rattle.std.specs.Ordering.{is_eq}
use Rattle.std.specs.declared.cmp.Ordering.TheVariants.{Less}
use Rattle.std.proofs.lemmas.Map.Keys.{IsDistinct-IsPermutation, IsDistinct-head}
use Rattle.reg_op.specs.Set.{Ascends}
use Rattle.reg_op.specs.Ids.{Id, id_cmp, is_same}
use Rattle.reg_op.specs.Lists.{AllAfter, ById}
use Rattle.reg_op.specs.Operations.{Op}
use Rattle.reg_op.specs.Status.{is_enter}
use Rattle.reg_op.proofs.OpLemmas.{id_total}
use Rattle.reg_op.proofs.SetLemmas.{less}
use Rattle.reg_report.proofs.ConflictLemmas.{none_in, in_cons, in_head, in_tail}
use Rattle.reg_report.proofs.OrderLemmas.{first_before, rest_ascends, put_before}

abbrev pub ids_in : List Op → List Id
ids_in os = map (λ (o : Op). o.id) (filter (λ (o : Op). is_enter o.body) os)

later : (i : Id) (os : List Op) → AllAfter i os → (j : Id) → Contains (ids_in os) j → id_cmp i j ≡ Less
later i [] up j c = absurd (none_in j c)
later i (o ∷ os) up j c =
    elim (is_enter o.body) as (λ b. Contains (map (λ (p : Op). p.id) (cond b (o ∷ filter (λ (p : Op). is_enter p.body) os) (filter (λ (p : Op). is_enter p.body) os))) j → id_cmp i j ≡ Less) [
      | true ↦ λ c. elim (in_cons j o.id (ids_in os) c) [
        | inl e ↦ subst (λ k. id_cmp i k ≡ Less) (sym e) (less _ up.0)
        | inr d ↦ later i os up.1 j d
      ]
      | false ↦ λ c. later i os up.1 j c
    ] c

-- if operations ascend by id, so do the ids of those that enter
pub ids_ascend : (os : List Op) → ById os → Ascends id_cmp (ids_in os)
ids_ascend [] up = tt
ids_ascend (o ∷ os) up =
    elim (is_enter o.body) as (λ b. Ascends id_cmp (map (λ (p : Op). p.id) (cond b (o ∷ filter (λ (p : Op). is_enter p.body) os) (filter (λ (p : Op). is_enter p.body) os)))) [
      | true ↦ put_before id_total o.id (ids_in os) (later o.id os up.0) (ids_ascend os up.1)
      | false ↦ ids_ascend os up.1
    ]

-- ---- distinct ids

apart : (k : Id) (ks : List Id) → ((i : Id) → Contains ks i → id_cmp k i ≡ Less) → AllByRecursion (λ i. is_same k i ≡ false) ks
apart k [] h = tt
apart k (i ∷ is) h = (ap is_eq (h i (in_head i is)), apart k is (λ j c. h j (in_tail j i is c)))

pub distinct : (ks : List Id) → Ascends id_cmp ks → IsDistinct is_same ks
unfolding IsDistinct
distinct [] up = tt
distinct (k ∷ ks) up = (apart k ks (first_before id_total k ks up), distinct ks (rest_ascends id_total k ks up))

pub still_distinct : (xs ys : List Id) → IsPermutation xs ys → IsDistinct is_same xs → IsDistinct is_same ys
still_distinct xs ys p d = IsDistinct-IsPermutation is_same (eq_by_cmp_equiv id_total).symm xs ys p d

differs_from : (k : Id) (ks : List Id) → AllByRecursion (λ i. is_same k i ≡ false) ks → (i : Id) → Contains ks i → is_same k i ≡ false
differs_from k [] h i c = absurd (none_in i c)
differs_from k (j ∷ js) h i c = elim (in_cons i j js c) [
  | inl e ↦ subst (λ z. is_same k z ≡ false) (sym e) h.0
  | inr d ↦ differs_from k js h.1 i d
]

-- the first of distinct ids is none of the others
pub differs : (k : Id) (ks : List Id) → IsDistinct is_same (k ∷ ks) → (i : Id) → Contains ks i → is_same k i ≡ false
differs k ks d i c = differs_from k ks (IsDistinct-head is_same k ks d) i c
