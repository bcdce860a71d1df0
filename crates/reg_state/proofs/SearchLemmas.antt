-- A binary search in a list of runs.
use Rattle.std.proofs.Common.{ltb}
use Rattle.std.specs.Bool.{OnTrue, OnFalse}
use Rattle.std.proofs.Common.{◌≡◌, ℕ, ◌+◌, ◌-◌, ◌<◌, ◌≤◌, zero, suc, Bool, true, false, not, ◌||◌, List, [], ◌∷◌, length, get_or, refl, sym, ap, ◌∙◌, subst, inl, inr, ◌⊎◌, arith}
use Rattle.std.specs.Prelude.{All}
use Rattle.std.proofs.lemmas.Bool.{true≢false, and_from, and_parts, false_from_ne_true, leb-true, le-leb}
use Rattle.std.proofs.lemmas.Bool.Decides.{nat_tests}
use Rattle.std.proofs.lemmas.List.Folds.{list_any_at}
use Rattle.std.specs.List.Sorted.{IsPartitionPoint}
use Rattle.std.specs.Ordering.{nat_cmp, is_lt, is_eq, is_gt, ordering_then, ordering_reverse}
use Rattle.std.specs.declared.cmp.Ordering.{Ordering}
use Rattle.std.specs.declared.cmp.Ordering.TheVariants.{Less, Equal, Greater}
use Rattle.std.specs.Cmp.{nat_cmp_is, ranked, tied_itself}
use Rattle.std.proofs.lemmas.Cmp.{nat_list_cmp_total}
use Rattle.reg_op.specs.Ids.{Id, IsId, Ids, id_cmp}
use Rattle.reg_op.proofs.OpLemmas.{bytes_exact}
use Rattle.reg_op.proofs.PointLemmas.{index_of_any, lt_or_ge}
use Rattle.reg_state.specs.declared.run.Run.{Run}
use Rattle.reg_state.specs.Runs.{replica_cmp, IsBelow, is_replica_by, id_at, last_of, seen_of, is_in_run, is_in_runs, IsApart, IsRun, AreRuns, EndInIds, AllUnder, IsAbove, IsGreatest, IsLastCount}
use Rattle.reg_state.proofs.RunLemmas.{same_replica, replica_itself, below_chain, not_below_same, first_run, rest_runs, contains-seen_of}

-- s is r, or a run that is after it and does not touch it
abbrev pub IsUpTo : Run → Run → Type 0
IsUpTo r s = (r ≡ s) ⊎ (IsApart r s × IsRun s)

apart_chain : (a b c : Run) → IsRun b → IsApart a b → IsApart b c → IsApart a c
apart_chain a b c is (inl h) (inl k) = inl (below_chain a.replica b.replica c.replica h k)
apart_chain a b c is (inl h) (inr k) = inl (subst (λ x. IsBelow a.replica x) k.0 h)
apart_chain a b c is (inr h) (inl k) = inl (subst (λ x. IsBelow x c.replica) (sym h.0) k)
apart_chain a b c is (inr h) (inr k) = inr (h.0 ∙ k.0, omega (arith, h.1, k.1, is.1))

apart_at : (r : Run) (rs : List Run) (j : ℕ) (d : Run) → AreRuns (r ∷ rs) → j < length rs → IsApart r (get_or rs j d) × IsRun (get_or rs j d)
apart_at r [] j d h k = absurd (omega arith)
apart_at r (s ∷ ss) zero d h k = (h.1, first_run s ss h.2)
apart_at r (s ∷ ss) (suc j) d h k =
    let rest = apart_at s ss j d h.2 (omega arith) in
    (apart_chain r s (get_or ss j d) (first_run s ss h.2) h.1 rest.0, rest.1)

pub runs_far : (rs : List Run) → AreRuns rs → (i j : ℕ) (d : Run) → i ≤ j → j < length rs → IsUpTo (get_or rs i d) (get_or rs j d)
runs_far [] h i j d a b = absurd (omega arith)
runs_far (r ∷ rs) h zero zero d a b = inl refl
runs_far (r ∷ rs) h zero (suc j) d a b = inr (apart_at r rs j d h (omega arith))
runs_far (r ∷ rs) h (suc i) zero d a b = absurd (omega arith)
runs_far (r ∷ rs) h (suc i) (suc j) d a b = runs_far rs (rest_runs r rs h) i j d (omega arith) (omega arith)

-- ---- ids in runs

pub record IsWithin (i : Id) (r : Run) : Type 0 where
  pub replica : i.replica ≡ r.replica
  pub low : r.low ≤ i.count
  pub high : i.count ≤ r.high

pub within : (i : Id) (r : Run) → is_in_run i r ≡ true → IsWithin i r
within i r h =
    let p = and_parts _ _ h in
    let q = and_parts _ _ p.1 in
    record { replica = same_replica i.replica r.replica p.0; low = leb-true r.low i.count q.0; high = leb-true i.count r.high q.1 }

pub in_run : (i : Id) (r : Run) → IsWithin i r → is_in_run i r ≡ true
in_run i r w =
    and_from _ _ (subst (λ x. is_eq (replica_cmp i.replica x) ≡ true) w.replica (replica_itself i.replica))
    (and_from _ _ (le-leb r.low i.count w.low) (le-leb i.count r.high w.high))

-- ---- whether a run ends before an id

abbrev pub ends : Id → Run → Bool
ends i r = is_lt (id_cmp (last_of r) i)

abbrev pub IsPast : Run → Id → Type 0
IsPast r i = IsBelow r.replica i.replica ⊎ ((r.replica ≡ i.replica) × (r.high < i.count))

less_of : (a b : Ordering) → is_lt (ordering_then a b) ≡ true → (a ≡ Less) ⊎ ((a ≡ Equal) × (b ≡ Less))
less_of Less b h = inl refl
less_of Equal Less h = inr (refl, refl)
less_of Equal Equal h = absurd (true≢false (sym h))
less_of Equal Greater h = absurd (true≢false (sym h))
less_of Greater b h = absurd (true≢false (sym h))

pub past_of : (i : Id) (r : Run) → ends i r ≡ true → IsPast r i
past_of i r h = elim (less_of (replica_cmp r.replica i.replica) (nat_cmp r.high i.count) h) [
  | inl a ↦ inl a
  | inr b ↦ inr (bytes_exact r.replica i.replica b.0, ranked r.high i.count Less (sym b.1))
]

pub past_ends : (i : Id) (r : Run) → IsPast r i → ends i r ≡ true
past_ends i r (inl a) = λ k. is_lt (ordering_then (a k) (nat_cmp r.high i.count))
past_ends i r (inr b) =
    (λ k. is_lt (ordering_then (replica_cmp r.replica (sym b.0 k)) (nat_cmp r.high i.count)))
    ∙ (λ k. is_lt (ordering_then (tied_itself nat_list_cmp_total r.replica k) (nat_cmp r.high i.count)))
    ∙ (λ k. is_lt (sym (nat_cmp_is r.high i.count Less b.1) k))

pub ends_low : (i : Id) (x y : Run) → IsUpTo x y → ends i y ≡ true → ends i x ≡ true
ends_low i x y (inl e) h = subst (λ r. ends i r ≡ true) (sym e) h
ends_low i x y (inr a) h = past_ends i x (from a.0 (past_of i y h) a.1)
  where
    from : IsApart x y → IsPast y i → IsRun y → IsPast x i
    from (inl h) (inl k) is = inl (below_chain x.replica y.replica i.replica h k)
    from (inl h) (inr k) is = inl (subst (λ r. IsBelow x.replica r) k.0 h)
    from (inr h) (inl k) is = inl (subst (λ r. IsBelow r i.replica) (sym h.0) k)
    from (inr h) (inr k) is = inr (h.0 ∙ k.0, omega (arith, h.1, k.1, is.1))

pub ends_from : (i : Id) (x : Run) → is_in_run i x ≡ true → ends i x ≡ false
ends_from i x h = false_from_ne_true _ (λ e. refuted (within i x h) (past_of i x e))
  where
    refuted : IsWithin i x → IsPast x i → ⊥
    refuted w (inl a) = not_below_same x.replica i.replica (sym w.replica) a
    refuted w (inr b) = omega (arith, w.high, b.1)

pub ends_down : (i : Id) (x y : Run) → IsUpTo x y → ends i x ≡ false → is_in_run i y ≡ true → is_in_run i x ≡ true
ends_down i x y (inl e) h k = subst (λ r. is_in_run i r ≡ true) (sym e) k
ends_down i x y (inr a) h k = absurd (true≢false (sym (past_ends i x (from a.0 (within i y k))) ∙ h))
  where
    from : IsApart x y → IsWithin i y → IsPast x i
    from (inl h) w = inl (subst (λ r. IsBelow x.replica r) (sym w.replica) h)
    from (inr h) w = inr (h.0 ∙ sym w.replica, omega (arith, h.1, w.low))

-- ---- the last run of a replica

abbrev pub PartedAt : List Run → List ℕ → ℕ → Type 0
PartedAt rs q p = IsPartitionPoint (λ (r : Run). is_replica_by r.replica q ≡ true) (λ r. is_replica_by r.replica q ≡ false) rs p

by_itself : (a b : List ℕ) → a ≡ b → is_replica_by a b ≡ true
by_itself a b e = subst (λ x. is_replica_by a x ≡ true) e (from (replica_cmp a a) (replica_itself a))
  where
    from : (o : Ordering) → is_eq o ≡ true → not (is_gt o) ≡ true
    from Less h = refl
    from Equal h = refl
    from Greater h = absurd (true≢false (sym h))

not_above : (a b : List ℕ) → IsBelow b a → is_replica_by a b ≡ true → ⊥
not_above a b h k = true≢false (sym k ∙ (λ j. not (is_gt ((nat_list_cmp_total.antisymm a b ∙ ap ordering_reverse h) j))))

pub by_low : (q : List ℕ) (x y : Run) → IsUpTo x y → is_replica_by y.replica q ≡ true → is_replica_by x.replica q ≡ true
by_low q x y (inl e) h = subst (λ r. is_replica_by r.replica q ≡ true) (sym e) h
by_low q x y (inr a) h = from a.0
  where
    less_by : (a b : List ℕ) → IsBelow a b → is_replica_by a b ≡ true
    less_by a b h = λ j. not (is_gt (h j))

    split : (o : Ordering) → o ≡ replica_cmp y.replica q → not (is_gt o) ≡ true → IsBelow y.replica q ⊎ (y.replica ≡ q)
    split Less e h = inl (sym e)
    split Equal e h = inr (bytes_exact y.replica q (sym e))
    split Greater e h = absurd (true≢false (sym h))

    from : IsApart x y → is_replica_by x.replica q ≡ true
    from (inl b) = elim (split (replica_cmp y.replica q) refl h) [
      | inl c ↦ less_by x.replica q (below_chain x.replica y.replica q b c)
      | inr c ↦ less_by x.replica q (subst (λ r. IsBelow x.replica r) c b)
    ]
    from (inr b) = subst (λ r. is_replica_by r q ≡ true) (sym b.0) h

-- a run that has an id of the replica is before the partition point
pub stands_before : (rs : List Run) (q : List ℕ) (p count : ℕ) → PartedAt rs q p → is_in_runs (id_at q count) rs ≡ true
    → (x : Run) × (i : ℕ) × (i < length rs) × (i < p) × IsWithin (id_at q count) x × ((d : Run) → get_or rs i d ≡ x)
stands_before rs q p count point h =
    let r = index_of_any (is_in_run (id_at q count)) rs h in
    let w = within (id_at q count) r.0 r.3 in
    let before : r.1 < p = elim (lt_or_ge r.1 p) [
      | inl a ↦ a
      | inr b ↦ absurd (true≢false (sym (by_itself r.0.replica q (sym w.replica)) ∙ subst (λ x. is_replica_by x.replica q ≡ false) (r.4 r.0) (point.1 r.1 r.0 b r.2)))
    ] in
    (r.0, r.1, r.2, before, w, r.4)

pub last_none : (rs : List Run) (q : List ℕ) (p : ℕ) → PartedAt rs q p → p ≡ 0 → IsLastCount rs q 0
last_none rs q p point e = record {
  there = λ h. absurd (omega arith);
  bound = λ count h. let r = stands_before rs q p count point h in absurd (omega (arith, r.3));
}

run_at : (rs : List Run) → AreRuns rs → (k : ℕ) → k < length rs → (last : Run) → get_or rs k last ≡ last → IsRun last
run_at [] are k h last at = absurd (omega arith)
run_at (r ∷ rs) are zero h last at = subst IsRun at (first_run r rs are)
run_at (r ∷ rs) are (suc k) h last at = run_at rs (rest_runs r rs are) k (omega arith) last at

module _ (rs : List Run) (are : AreRuns rs) (q : List ℕ) (p : ℕ) (point : PartedAt rs q p) (some : 0 < p) (bound : p ≤ length rs) (last : Run) (at : get_or rs (p - 1) last ≡ last) where
  up_to_last : (count : ℕ) → is_in_runs (id_at q count) rs ≡ true → (x : Run) × IsWithin (id_at q count) x × IsUpTo x last
  up_to_last count h =
      let r = stands_before rs q p count point h in
      (r.0, r.4, subst (λ y. IsUpTo r.0 y) at (subst (λ x. IsUpTo x (get_or rs (p - 1) last)) (r.5 last) (runs_far rs are r.1 (p - 1) last (omega (arith, r.3)) (omega arith))))

  last_is_run : IsRun last
  last_is_run = run_at rs are (p - 1) (omega arith) last at

  pub last_at : is_eq (replica_cmp last.replica q) ≡ true → IsLastCount rs q last.high
  last_at e =
      let same : last.replica ≡ q = same_replica last.replica q e in
      record {
        there = λ h. list_any_at (is_in_run (id_at q last.high)) rs (p - 1) last (omega arith)
            (ap (is_in_run (id_at q last.high)) at ∙ in_run (id_at q last.high) last (record { replica = sym same; low = last_is_run.1; high = omega arith }));
        bound = λ count h. let r = up_to_last count h in elim r.2 [
          | inl is ↦ subst (λ (x : Run). count ≤ x.high) is r.1.high
          | inr a ↦ elim a.0 [
            | inl below ↦ absurd (not_below_same r.0.replica last.replica (sym r.1.replica ∙ sym same) below)
            | inr near ↦ omega (arith, r.1.high, near.1, a.1.1)
          ]
        ];
      }

  pub last_else : is_eq (replica_cmp last.replica q) ≡ false → IsLastCount rs q 0
  last_else e = record {
    there = λ h. absurd (omega arith);
    bound = λ count h. let r = up_to_last count h in absurd (elim r.2 [
      | inl is ↦ differ (ap (λ (x : Run). x.replica) (sym is) ∙ sym r.1.replica)
      | inr a ↦ elim a.0 [
        | inl below ↦ not_above last.replica q (subst (λ x. IsBelow x last.replica) (sym r.1.replica) below) (subst (λ x. is_replica_by x.replica q ≡ true) at (point.0 (p - 1) last (omega arith) (omega arith)))
        | inr near ↦ differ (sym near.0 ∙ sym r.1.replica)
      ]
    ]);
  }
    where
      differ : last.replica ≡ q → ⊥
      differ same = true≢false (sym (subst (λ x. is_eq (replica_cmp last.replica x) ≡ true) same (replica_itself last.replica)) ∙ e)

pub greatest_of : (rs : List Run) (q : List ℕ) (n : ℕ) → IsLastCount rs q n → IsGreatest (seen_of rs) q n
greatest_of rs q n is = record {
  there = λ h. contains-seen_of rs (id_at q n) ∙ is.there h;
  bound = λ count h. is.bound count (sym (contains-seen_of rs (id_at q count)) ∙ h);
}

-- ---- each id of the runs is valid

pub ids_in_runs : (rs : List Run) → AreRuns rs → EndInIds rs → (i : Id) → is_in_runs i rs ≡ true → IsId i
ids_in_runs [] are ids i h = absurd (true≢false (sym h))
ids_in_runs (r ∷ rs) are ids i h =
    elim (is_in_run i r) as (λ b. is_in_run i r ≡ b → IsId i) [
      | true ↦ λ e. let w = within i r e in let is = first_run r rs are in record {
        long = subst (λ x. length x ≡ 16) (sym w.replica) ids.0.long;
        bytes = subst (All (λ b. b < 256)) (sym w.replica) ids.0.bytes;
        positive = omega (arith, is.0, w.low);
        fits = omega (arith, ids.0.fits, w.high);
      }
      | false ↦ λ e. ids_in_runs rs (rest_runs r rs are) ids.1 i ((λ k. sym e k || is_in_runs i rs) ∙ h)
    ] refl

-- ---- a run above all others

pub last_in : (x : Run) → IsRun x → is_in_run (last_of x) x ≡ true
last_in x is = in_run (last_of x) x (record { replica = refl; low = is.1; high = omega arith })

-- r is above each id of an empty list
pub under_none : (r : Run) (rs : List Run) → length rs ≡ 0 → AllUnder rs r
under_none r [] e i h = absurd (true≢false (sym h))
under_none r (x ∷ xs) e i h = absurd (omega arith)

id_under : (i : Id) (x last r : Run) → IsWithin i x → IsUpTo x last → IsApart last r → IsBelow i.replica r.replica ⊎ ((i.replica ≡ r.replica) × (i.count + 1 < r.low))
id_under i x last r w (inl e) (inl b) = inl (subst (λ q. IsBelow q r.replica) (sym (w.replica ∙ ap (λ (y : Run). y.replica) e)) b)
id_under i x last r w (inl e) (inr b) = let high : i.count ≤ last.high = subst (λ (y : Run). i.count ≤ y.high) e w.high in inr (w.replica ∙ ap (λ (y : Run). y.replica) e ∙ b.0, omega (arith, high, b.1))
id_under i x last r w (inr a) apart = from a.0 apart
  where
    from : IsApart x last → IsApart last r → IsBelow i.replica r.replica ⊎ ((i.replica ≡ r.replica) × (i.count + 1 < r.low))
    from (inl b) (inl c) = inl (subst (λ q. IsBelow q r.replica) (sym w.replica) (below_chain x.replica last.replica r.replica b c))
    from (inl b) (inr c) = inl (subst (λ q. IsBelow q r.replica) (sym w.replica) (subst (λ q. IsBelow x.replica q) c.0 b))
    from (inr b) (inl c) = inl (subst (λ q. IsBelow q r.replica) (sym (w.replica ∙ b.0)) c)
    from (inr b) (inr c) = inr (w.replica ∙ b.0 ∙ c.0, omega (arith, w.high, b.1, a.1.1, c.1))

pub under_last : (rs : List Run) → AreRuns rs → (r last : Run) → 0 < length rs → get_or rs (length rs - 1) last ≡ last → IsApart last r → AllUnder rs r
under_last rs are r last some at apart i h =
    let x = index_of_any (is_in_run i) rs h in
    let up : IsUpTo x.0 last = subst (λ y. IsUpTo x.0 y) at (subst (λ y. IsUpTo y (get_or rs (length rs - 1) last)) (x.4 last) (runs_far rs are x.1 (length rs - 1) last (omega (arith, x.2)) (omega arith))) in
    id_under i x.0 last r (within i x.0 x.3) up apart

pub last_under : (rs : List Run) → AreRuns rs → (r last : Run) → 0 < length rs → get_or rs (length rs - 1) last ≡ last → AllUnder rs r → IsApart last r
last_under rs are r last some at under =
    let is = run_at rs are (length rs - 1) (omega arith) last at in
    under (last_of last) (list_any_at (is_in_run (last_of last)) rs (length rs - 1) last (omega arith) (ap (is_in_run (last_of last)) at ∙ last_in last is))

-- two runs of a replica are apart if the second begins more than 1 after the end of the first
pub apart_test : (r s : Run) → replica_cmp r.replica s.replica ≡ Equal → r.high < s.low → OnTrue (ltb 1 (s.low - r.high)) (IsApart r s)
apart_test r s e h = from (ltb 1 (s.low - r.high)) refl
  where
    far : (l h : ℕ) → h < l → ltb 1 (l - h) ≡ true → h + 1 < l
    far l h a b = grind (arith, nat_tests)

    from : (b : Bool) → ltb 1 (s.low - r.high) ≡ b → OnTrue b (IsApart r s)
    from true k = inr (bytes_exact r.replica s.replica e, far s.low r.high h k)
    from false k = tt

pub not_apart_back : (r s : Run) → replica_cmp r.replica s.replica ≡ Greater → IsApart r s → ⊥
not_apart_back r s e (inl b) = let f : ◌≡◌ {A = Ordering} Less Greater = sym b ∙ e in absurd cc
not_apart_back r s e (inr b) = let f : ◌≡◌ {A = Ordering} Equal Greater = sym (tied_itself nat_list_cmp_total r.replica) ∙ (λ k. replica_cmp r.replica (b.0 k)) ∙ e in absurd cc

pub told_by_last : (rs : List Run) → AreRuns rs → (r last : Run) → 0 < length rs → get_or rs (length rs - 1) last ≡ last
    → (b : Bool) → OnTrue b (IsApart last r) → OnFalse b (IsApart last r → ⊥) → OnTrue b (AllUnder rs r) × OnFalse b (AllUnder rs r → ⊥)
told_by_last rs are r last some at true y n = (under_last rs are r last some at y, tt)
told_by_last rs are r last some at false y n = (tt, λ under. n (last_under rs are r last some at under))

pub next_told : (rs : List Run) (s : Ids) (r : Run) (b : Bool) → seen_of rs ≡ s → IsRun r → OnTrue b (AllUnder rs r) → OnFalse b (AllUnder rs r → ⊥)
    → OnTrue b (IsRun r × IsAbove s r) × OnFalse b (IsRun r × IsAbove s r → ⊥)
next_told rs s r true e is y n = ((is, subst (λ t. IsAbove t r) e (λ i h. y i (sym (contains-seen_of rs i) ∙ h))), tt)
next_told rs s r false e is y n = (tt, λ p. n (λ i h. subst (λ t. IsAbove t r) (sym e) p.1 i (contains-seen_of rs i ∙ h)))
