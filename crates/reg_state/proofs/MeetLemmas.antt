-- Whether a run overlaps any run of a list is known from the first one that does not end before it.
use Rattle.std.proofs.Common.{◌≡◌, ℕ, ◌+◌, ◌-◌, ◌<◌, ◌≤◌, zero, suc, max, min, Bool, true, false, leb, List, [], ◌∷◌, length, get_or, sym, ap, ◌∙◌, subst, inl, inr, ◌⊎◌, arith}
use Rattle.std.proofs.lemmas.Bool.{true≢false, and_from, and_parts, or_cases, or_left, or_right, false_from_ne_true, leb-true, cases_lt, le-leb}
use Rattle.std.proofs.lemmas.List.Folds.{list_any_at}
use Rattle.std.specs.List.{list_any}
use Rattle.std.specs.Cmp.{both_ways}
use Rattle.std.specs.Ordering.{is_eq}
use Rattle.reg_op.specs.Set as set
use Rattle.reg_op.specs.Ids.{Id}
use Rattle.reg_op.proofs.PointLemmas.{index_of_any}
use Rattle.reg_state.specs.declared.run.Run.{Run}
use Rattle.reg_state.specs.Runs.{replica_cmp, id_at, first_of, ids_from, seen_of, is_in_run, meets, overlap, IsBelow, IsRun, AreRuns}
use Rattle.reg_state.proofs.RunLemmas.{same_replica, replica_itself, not_below_same, first_run, rest_runs, contains-seen_of}
use Rattle.reg_state.proofs.SearchLemmas.{IsUpTo, IsPast, within, in_run, ends, past_of, past_ends, runs_far}

-- ---- runs that overlap

pub record Overlap (r s : Run) : Type 0 where
  pub replica : r.replica ≡ s.replica
  pub low : r.low ≤ r.high
  pub from : r.low ≤ s.high
  pub to : s.low ≤ r.high

pub overlap_of : (r s : Run) → overlap r s ≡ true → Overlap r s
overlap_of r s h =
    let p = and_parts _ _ h in
    let q : max r.low s.low ≤ min r.high s.high = leb-true _ _ p.1 in
    record { replica = same_replica r.replica s.replica p.0; low = omega (arith, q); from = omega (arith, q); to = omega (arith, q) }

pub of_overlap : (r s : Run) → IsRun s → Overlap r s → overlap r s ≡ true
of_overlap r s is o =
    and_from _ _ (subst (λ x. is_eq (replica_cmp r.replica x) ≡ true) o.replica (replica_itself r.replica))
    (le-leb (max r.low s.low) (min r.high s.high) (omega (arith, o.low, o.from, o.to, is.1)))

-- ---- a run overlaps one of a list if and only if the list has an id of it

some_from : (t : Id → Bool) (q : List ℕ) (low n c : ℕ) → low ≤ c → c < low + n → t (id_at q c) ≡ true → list_any t (ids_from q low n) ≡ true
some_from t q low zero c a b h = absurd (omega arith)
some_from t q low (suc n) c a b h =
    elim (here_or_later low c a) [
      | inl e ↦ or_left _ _ (subst (λ x. t (id_at q x) ≡ true) (sym e) h)
      | inr e ↦ or_right (t (id_at q low)) _ (some_from t q (low + 1) n c e (omega arith) h)
    ]
  where
    here_or_later : (a b : ℕ) → a ≤ b → (a ≡ b) ⊎ (a + 1 ≤ b)
    here_or_later a b h = grind arith

from_some : (t : Id → Bool) (q : List ℕ) (low n : ℕ) → list_any t (ids_from q low n) ≡ true → (c : ℕ) × (low ≤ c) × (c < low + n) × (t (id_at q c) ≡ true)
from_some t q low zero h = absurd (true≢false (sym h))
from_some t q low (suc n) h =
    elim (or_cases (t (id_at q low)) _ h) [
      | inl e ↦ (low, omega arith, omega arith, e)
      | inr e ↦ let r = from_some t q (low + 1) n e in (r.0, omega (arith, r.1), omega (arith, r.2), r.3)
    ]

overlaps_meet : (rs : List Run) (r : Run) → list_any (overlap r) rs ≡ true → meets (seen_of rs) r ≡ true
overlaps_meet rs r h =
    let x = index_of_any (overlap r) rs h in
    let o = overlap_of r x.0 x.3 in
    let c = max r.low x.0.low in
    let both : c ≤ min r.high x.0.high = common r x.0 x.3 in
    some_from (set.contains (seen_of rs)) r.replica r.low (r.high + 1 - r.low) c (omega arith) (omega (arith, both))
    (contains-seen_of rs (id_at r.replica c)
    ∙ list_any_at (is_in_run (id_at r.replica c)) rs x.1 x.0 x.2
    (ap (is_in_run (id_at r.replica c)) (x.4 x.0) ∙ in_run (id_at r.replica c) x.0 (record { replica = o.replica; low = omega arith; high = omega (arith, both) })))
  where
    common : (r s : Run) → overlap r s ≡ true → max r.low s.low ≤ min r.high s.high
    common r s h = leb-true (max r.low s.low) (min r.high s.high) (and_parts (is_eq (replica_cmp r.replica s.replica)) (leb (max r.low s.low) (min r.high s.high)) h).1

run_of : (rs : List Run) → AreRuns rs → (j : ℕ) (d : Run) → j < length rs → IsRun (get_or rs j d)
run_of [] are j d h = absurd (omega arith)
run_of (r ∷ rs) are zero d h = first_run r rs are
run_of (r ∷ rs) are (suc j) d h = run_of rs (rest_runs r rs are) j d (omega arith)

meets_overlap : (rs : List Run) → AreRuns rs → (r : Run) → meets (seen_of rs) r ≡ true → list_any (overlap r) rs ≡ true
meets_overlap rs are r h =
    let c = from_some (set.contains (seen_of rs)) r.replica r.low (r.high + 1 - r.low) h in
    let i : Id = id_at r.replica c.0 in
    let x = index_of_any (is_in_run i) rs (sym (contains-seen_of rs i) ∙ c.3) in
    let w = within i x.0 x.3 in
    let is : IsRun x.0 = subst IsRun (x.4 x.0) (run_of rs are x.1 x.0 x.2) in
    list_any_at (overlap r) rs x.1 x.0 x.2
    (ap (overlap r) (x.4 x.0) ∙ of_overlap r x.0 is (record { replica = w.replica; low = omega (arith, c.1, c.2); from = omega (arith, c.1, w.high); to = omega (arith, c.1, c.2, w.low) }))

pub meets_is : (rs : List Run) → AreRuns rs → (r : Run) → list_any (overlap r) rs ≡ meets (seen_of rs) r
meets_is rs are r = both_ways _ _ (overlaps_meet rs r) (meets_overlap rs are r)

-- ---- the conditions of the search

-- both are runs, and s is r or is after it
pub record AreUpTo (r s : Run) : Type 0 where
  pub is_run : IsRun r
  pub later : IsUpTo r s

pub runs_up : (rs : List Run) → AreRuns rs → (i j : ℕ) (d : Run) → i ≤ j → j < length rs → AreUpTo (get_or rs i d) (get_or rs j d)
runs_up rs are i j d a b = record { is_run = run_of rs are i d (omega arith); later = runs_far rs are i j d a b }

pub meets_from : (r x : Run) → overlap r x ≡ true → ends (first_of r) x ≡ false
meets_from r x h = false_from_ne_true _ (λ e. refuted (overlap_of r x h) (past_of (first_of r) x e))
  where
    refuted : Overlap r x → IsPast x (first_of r) → ⊥
    refuted o (inl a) = not_below_same x.replica r.replica (sym o.replica) a
    refuted o (inr b) = omega (arith, o.from, b.1)

pub meets_down : (r x y : Run) → AreUpTo x y → ends (first_of r) x ≡ false → overlap r y ≡ true → overlap r x ≡ true
meets_down r x y up late h = from up.later
  where
    not_past : x.replica ≡ r.replica → r.low ≤ x.high
    not_past e = elim (cases_lt x.high r.low) [
      | inl l ↦ absurd (true≢false (sym (past_ends (first_of r) x (inr (e, l))) ∙ late))
      | inr g ↦ g
    ]

    from : IsUpTo x y → overlap r x ≡ true
    from (inl e) = subst (λ z. overlap r z ≡ true) (sym e) h
    from (inr a) =
        let o = overlap_of r y h in
        elim a.0 [
          | inl below ↦ absurd (true≢false (sym (past_ends (first_of r) x (inl (subst (λ q. IsBelow x.replica q) (sym o.replica) below))) ∙ late))
          | inr near ↦ of_overlap r x up.is_run (record {
            replica = o.replica ∙ sym near.0;
            low = o.low;
            from = not_past (near.0 ∙ sym o.replica);
            to = let is = up.is_run in omega (arith, is.1, near.1, o.to);
          })
        ]
