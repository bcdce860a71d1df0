-- The ids of runs, replica by replica.
use Rattle.std.proofs.Common.{◌≡◌, ◌↔◌, nat_eq, ℕ, ◌+◌, ◌-◌, ◌≤◌, ◌<◌, zero, suc, true, false, cond, ◌||◌, List, [], ◌∷◌, ◌++◌, map, length, take, drop, refl, sym, ap, ◌∙◌, subst, inl, inr, zero-add, add-zero, arith}
use Rattle.std.proofs.lemmas.List.Sums.{sum_by-cons}
use Rattle.std.proofs.lemmas.List.{map-append}
use Rattle.std.proofs.lemmas.List.Folds.{list_any-append}
use Rattle.std.proofs.lemmas.Cmp.{nat_list_cmp_total}
use Rattle.std.proofs.Math.Bool.{or_self, or-false}
use Rattle.std.specs.List.{count_by, prefix_len, list_any}
use Rattle.std.specs.List.Sorted.{IsPartitionedBy, IsPartitionPoint}
use Rattle.std.specs.declared.cmp.Ordering.TheVariants.{Less}
use Rattle.std.specs.Ordering.{nat_cmp, is_eq, is_lt, is_gt, eq_by_cmp, ordering_then}
use Rattle.std.specs.Cmp.{tied_itself}
use Rattle.std.specs.Cmp.Lexicographic.{pointwise, same_text, texts_ties}
use Rattle.reg_op.specs.Set as set
use Rattle.reg_op.specs.Set.{Ascends, items-from_list, contains-from_list, same_set}
use Rattle.reg_op.specs.Ids.{Id, id_cmp}
use Rattle.reg_op.proofs.OpLemmas.{id_total, bytes_exact}
use Rattle.reg_state.specs.declared.run.Run.{Run}
use Rattle.reg_state.specs.Runs.{replica_cmp, IsBelow, IsApart, AreRuns, id_at, first_of, ids_from, ids_of_run, ids_of_runs, seen_of}
use Rattle.reg_query.specs.Offices.{is_of, is_same_replica, replicas_of}
use Rattle.reg_state.specs.Walks.{spans_of}
use Rattle.reg_query.proofs.PartLemmas.{Rises, total, parted, part}

-- ---- the ids of runs ascend

count_less : (a b : ℕ) → a < b → nat_cmp a b ≡ Less
count_less a b h = grind arith

less_count : (q p : List ℕ) (a b : ℕ) → q ≡ p → a < b → id_cmp (id_at q a) (id_at p b) ≡ Less
less_count q p a b e h = ap (λ o. ordering_then o (nat_cmp a b)) (ap (λ x. replica_cmp x p) e ∙ tied_itself nat_list_cmp_total p) ∙ count_less a b h

less_replica : (q p : List ℕ) (a b : ℕ) → IsBelow q p → id_cmp (id_at q a) (id_at p b) ≡ Less
less_replica q p a b h = ap (λ o. ordering_then o (nat_cmp a b)) h

-- consecutive ids of one replica ascend, followed by ids that ascend from the last of them
ascend_from : (q : List ℕ) (low n : ℕ) (ids : List Id) → Ascends id_cmp (id_at q (low + n) ∷ ids) → Ascends id_cmp (id_at q low ∷ (ids_from q (low + 1) n ++ ids))
ascend_from q low zero ids h = subst (λ c. Ascends id_cmp (id_at q c ∷ ids)) (add-zero low) h
ascend_from q low (suc n) ids h =
    let e : low + suc n ≡ (low + 1) + n = omega arith in
    (less_count q q low (low + 1) refl (omega arith), ascend_from q (low + 1) n ids (subst (λ c. Ascends id_cmp (id_at q c ∷ ids)) e h))

-- the ids of a run ascend, followed by ids that ascend from its last one
ascend_run : (r : Run) (ids : List Id) → r.low ≤ r.high → Ascends id_cmp (id_at r.replica r.high ∷ ids) → Ascends id_cmp (ids_of_run r ++ ids)
ascend_run r ids l h =
    let n : r.high + 1 - r.low ≡ suc (r.high - r.low) = omega arith in
    let last : r.high ≡ r.low + (r.high - r.low) = omega arith in
    subst (λ m. Ascends id_cmp (ids_from r.replica r.low m ++ ids)) (sym n)
    (ascend_from r.replica r.low (r.high - r.low) ids (subst (λ c. Ascends id_cmp (id_at r.replica c ∷ ids)) last h))

first_is : (s : Run) → s.low ≤ s.high → (ids : List Id) → ids_of_run s ++ ids ≡ first_of s ∷ (ids_from s.replica (s.low + 1) (s.high - s.low) ++ ids)
first_is s l ids = let n : s.high + 1 - s.low ≡ suc (s.high - s.low) = omega arith in ap (λ m. ids_from s.replica s.low m ++ ids) n

is_run : (s : Run) (ss : List Run) → AreRuns (s ∷ ss) → s.low ≤ s.high
is_run s [] h = h.1
is_run s (t ∷ ts) h = h.0.1

less_apart : (r s : Run) → IsApart r s → id_cmp (id_at r.replica r.high) (first_of s) ≡ Less
less_apart r s (inl b) = less_replica r.replica s.replica r.high s.low b
less_apart r s (inr p) = less_count r.replica s.replica r.high s.low p.0 (omega (arith, p.1))

ids_ascend : (rs : List Run) → AreRuns rs → Ascends id_cmp (ids_of_runs rs)
ids_ascend [] h = tt
ids_ascend (r ∷ []) h = ascend_run r [] h.1 tt
ids_ascend (r ∷ s ∷ ss) h =
    let l = is_run s ss h.2 in
    let later : Ascends id_cmp (ids_of_runs (s ∷ ss)) = ids_ascend (s ∷ ss) h.2 in
    ascend_run r (ids_of_runs (s ∷ ss)) h.0.1
    (subst (λ is. Ascends id_cmp (id_at r.replica r.high ∷ is)) (sym (first_is s l (ids_of_runs ss)))
    (less_apart r s h.1, subst (Ascends id_cmp) (first_is s l (ids_of_runs ss)) later))

-- the set of the ids of runs has these ids, in this order
pub ids_are : (rs : List Run) → AreRuns rs → set.items (seen_of rs) ≡ ids_of_runs rs
ids_are rs h = items-from_list id_total (ids_of_runs rs) (ids_ascend rs h)

-- ---- the number of ids of one replica

abbrev span : Run → ℕ
span r = r.high + 1 - r.low

abbrev replica_of : Run → List ℕ
replica_of r = r.replica

spans_are : (rs : List Run) → spans_of rs ≡ total span rs
spans_are [] = refl
spans_are (r ∷ rs) = ap (λ n. span r + n) (spans_are rs)

module _ (q : List ℕ) where
  count_from : (p : List ℕ) (low n : ℕ) (ids : List Id) → count_by (is_of q) (ids_from p low n ++ ids) ≡ cond (is_same_replica p q) n 0 + count_by (is_of q) ids
  count_from p low zero ids =
      elim (is_same_replica p q) as (λ b. count_by (is_of q) ids ≡ cond b 0 0 + count_by (is_of q) ids) [ true ↦ sym (zero-add _) | false ↦ sym (zero-add _) ]
  count_from p low (suc n) ids =
      sum_by-cons (λ i. cond (is_of q i) 1 0) (id_at p low) (ids_from p (low + 1) n ++ ids)
      ∙ ap (λ m. cond (is_same_replica p q) 1 0 + m) (count_from p (low + 1) n ids)
      ∙ elim (is_same_replica p q) as (λ b. cond b 1 0 + (cond b n 0 + count_by (is_of q) ids) ≡ cond b (suc n) 0 + count_by (is_of q) ids) [ true ↦ omega arith | false ↦ zero-add _ ]

  count_runs : (rs : List Run) → count_by (is_of q) (ids_of_runs rs) ≡ total (λ (r : Run). cond (is_same_replica r.replica q) (span r) 0) rs
  count_runs [] = refl
  count_runs (r ∷ rs) = count_from r.replica r.low (span r) (ids_of_runs rs) ∙ ap (λ n. cond (is_same_replica r.replica q) (span r) 0 + n) (count_runs rs)

run_rises : (r s : Run) → IsApart r s → is_gt (replica_cmp r.replica s.replica) ≡ false
run_rises r s (inl b) = ap is_gt b
run_rises r s (inr p) = ap is_gt (ap (λ x. replica_cmp x s.replica) p.0 ∙ tied_itself nat_list_cmp_total s.replica)

runs_rise : (rs : List Run) → AreRuns rs → Rises replica_of rs
runs_rise [] h = tt
runs_rise (r ∷ []) h = tt
runs_rise (r ∷ s ∷ ss) h = (run_rises r s h.1, runs_rise (s ∷ ss) h.2)

pub runs_parted : (q : List ℕ) (rs : List Run) → AreRuns rs → IsPartitionedBy (λ (r : Run). is_lt (replica_cmp r.replica q)) rs
runs_parted q rs h = parted replica_of q rs (runs_rise rs h)

-- from the partition point on, the longest prefix of runs of q has as many ids as there are of q in all
pub part_of_runs : (q : List ℕ) (rs : List Run) (a : ℕ) → AreRuns rs → a ≤ length rs
    → IsPartitionPoint (λ (r : Run). is_lt (replica_cmp r.replica q) ≡ true) (λ r. is_lt (replica_cmp r.replica q) ≡ false) rs a
    → (rest : List Run) (n : ℕ) → rest ≡ drop a rs → n ≡ prefix_len (λ (r : Run). is_same_replica r.replica q) rest
    → spans_of (take n rest) ≡ count_by (is_of q) (ids_of_runs rs)
part_of_runs q rs a h l point rest n e m =
    spans_are (take n rest) ∙ (λ j. total span (take ((m ∙ ap (prefix_len (λ (r : Run). is_same_replica r.replica q)) e) j) (e j)))
    ∙ part replica_of q span rs a (runs_rise rs h) l point ∙ sym (count_runs q rs)

-- ---- the replicas of runs

abbrev replica_in : Id → List ℕ
replica_in i = i.replica

any_ids : (q p : List ℕ) (low n : ℕ) → list_any (eq_by_cmp replica_cmp q) (map replica_in (ids_from p low (suc n))) ≡ eq_by_cmp replica_cmp q p
any_ids q p low zero = or-false (eq_by_cmp replica_cmp q p)
any_ids q p low (suc n) = ap (λ b. eq_by_cmp replica_cmp q p || b) (any_ids q p (low + 1) n) ∙ or_self (eq_by_cmp replica_cmp q p)

any_run : (q : List ℕ) (r : Run) → r.low ≤ r.high → list_any (eq_by_cmp replica_cmp q) (map replica_in (ids_of_run r)) ≡ eq_by_cmp replica_cmp q r.replica
any_run q r l =
    let n : r.high + 1 - r.low ≡ suc (r.high - r.low) = omega arith in
    ap (λ m. list_any (eq_by_cmp replica_cmp q) (map replica_in (ids_from r.replica r.low m))) n ∙ any_ids q r.replica r.low (r.high - r.low)

later_runs : (r : Run) (rs : List Run) → AreRuns (r ∷ rs) → AreRuns rs
later_runs r [] h = tt
later_runs r (s ∷ ss) h = h.2

any_runs : (q : List ℕ) (rs : List Run) → AreRuns rs → list_any (eq_by_cmp replica_cmp q) (map replica_of rs) ≡ list_any (eq_by_cmp replica_cmp q) (map replica_in (ids_of_runs rs))
any_runs q [] h = refl
any_runs q (r ∷ rs) h =
    (λ j. sym (any_run q r (is_run r rs h)) j || any_runs q rs (later_runs r rs h) j)
    ∙ sym (list_any-append (eq_by_cmp replica_cmp q) (map replica_in (ids_of_run r)) (map replica_in (ids_of_runs rs)))
    ∙ ap (list_any (eq_by_cmp replica_cmp q)) (sym (map-append replica_in (ids_of_run r) (ids_of_runs rs)))

-- the replicas of runs are those of their ids
pub replicas_are : (rs : List Run) → AreRuns rs → set.from_list {R = replica_cmp} (map replica_of rs) ≡ replicas_of (seen_of rs)
replicas_are rs h =
    same_set nat_list_cmp_total bytes_exact (set.from_list (map replica_of rs)) (set.from_list (map replica_in (ids_of_runs rs))) (λ q.
    contains-from_list nat_list_cmp_total (map replica_of rs) q ∙ any_runs q rs h ∙ sym (contains-from_list nat_list_cmp_total (map replica_in (ids_of_runs rs)) q))
    ∙ ap (λ is. set.from_list {R = replica_cmp} (map replica_in is)) (sym (ids_are rs h))

-- `==` of replicas is true exactly if they are equal
pub replicas_exact : (x y : List ℕ) → (pointwise nat_eq x y ≡ true) ↔ (x ≡ y)
replicas_exact x y = (
  λ h. same_text x y (sym h),
  λ e. subst (λ z. pointwise nat_eq x z ≡ true) e (texts_ties x x ∙ ap is_eq (tied_itself nat_list_cmp_total x)),
)
