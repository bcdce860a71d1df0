-- Each set of valid ids has runs.
use Rattle.std.proofs.Common.{◌≡◌, ℕ, ◌+◌, ◌<◌, ◌≤◌, Bool, true, false, ◌&&◌, ◌||◌, cond, eqb, leb, List, [], ◌∷◌, refl, sym, ap, subst, ◌∙◌, arith, ◌⊎◌, inl, inr}
use Rattle.std.proofs.lemmas.Bool.{true≢false, or_left, or_right, cond-true, cond-false, eqb-true}
use Rattle.std.proofs.lemmas.Bool.Decides.{nat_tests}
use Rattle.std.proofs.Math.Bool.{or_assoc}
use Rattle.std.specs.List.{list_any}
use Rattle.std.specs.Ordering.{nat_cmp, is_lt, is_eq, eq_by_cmp, ordering_then}
use Rattle.std.specs.declared.cmp.Ordering.{Ordering}
use Rattle.std.specs.declared.cmp.Ordering.TheVariants.{Less, Equal, Greater}
use Rattle.std.specs.Cmp.{ranked, tied_then, unsigned_tied, tied_itself}
use Rattle.reg_op.specs.Set as set
use Rattle.reg_op.specs.Set.{same_set, contains-items}
use Rattle.reg_op.specs.Ids.{Id, Ids, IsId, id_cmp}
use Rattle.reg_op.proofs.OpLemmas.{id_total, id_exact, bytes_exact}
use Rattle.reg_op.proofs.SetLemmas.{Climbs, items_climb}
use Rattle.reg_state.specs.declared.run.Run.{Run}
use Rattle.reg_state.specs.Runs.{replica_cmp, IsBelow, is_in_run, is_in_runs, IsRun, IsApart, AreRuns, seen_of}
use Rattle.reg_state.proofs.RunLemmas.{contains-seen_of, same_replica, replica_itself}

abbrev run_of : Id → Run
run_of i = record { replica = i.replica; low = i.count; high = i.count }

abbrev touches : Id → Run → Bool
touches i r = is_eq (replica_cmp i.replica r.replica) && eqb (i.count + 1) r.low

abbrev grown : Id → Run → Run
grown i r = record { replica = i.replica; low = i.count; high = r.high }

abbrev begin : Id → List Run → List Run
begin i [] = run_of i ∷ []
begin i (r ∷ rs) = cond (touches i r) (grown i r ∷ rs) (run_of i ∷ r ∷ rs)

abbrev runs_from : List Id → List Run
runs_from [] = []
runs_from (i ∷ is) = begin i (runs_from is)

-- i is before j
abbrev IsSooner : Id → Id → Type 0
IsSooner i j = IsBelow i.replica j.replica ⊎ ((i.replica ≡ j.replica) × (i.count < j.count))

sooner : (i j : Id) → is_lt (id_cmp i j) ≡ true → IsSooner i j
sooner i j h = from (replica_cmp i.replica j.replica) (nat_cmp i.count j.count) refl refl h
  where
    from : (a b : Ordering) → replica_cmp i.replica j.replica ≡ a → nat_cmp i.count j.count ≡ b → is_lt (ordering_then a b) ≡ true → IsSooner i j
    from Less b e f h = inl e
    from Equal Less e f h = inr (bytes_exact i.replica j.replica e, ranked i.count j.count Less (sym f))
    from Equal Equal e f h = absurd (true≢false (sym h))
    from Equal Greater e f h = absurd (true≢false (sym h))
    from Greater b e f h = absurd (true≢false (sym h))

-- the first of the runs begins at the id
abbrev BeginsAt : Id → List Run → Type 0
BeginsAt i [] = ⊥
BeginsAt i (r ∷ rs) = (r.replica ≡ i.replica) × (r.low ≡ i.count)

begins : (i : Id) (rs : List Run) → BeginsAt i (begin i rs)
begins i [] = (refl, refl)
begins i (r ∷ rs) = elim (touches i r) as (λ b. BeginsAt i (cond b (grown i r ∷ rs) (run_of i ∷ r ∷ rs))) [ true ↦ (refl, refl) | false ↦ (refl, refl) ]

touching : (i : Id) (r : Run) → touches i r ≡ true → (i.replica ≡ r.replica) × (i.count + 1 ≡ r.low)
touching i r h = from (is_eq (replica_cmp i.replica r.replica)) (eqb (i.count + 1) r.low) refl refl h
  where
    from : (a b : Bool) → is_eq (replica_cmp i.replica r.replica) ≡ a → eqb (i.count + 1) r.low ≡ b → (a && b) ≡ true → (i.replica ≡ r.replica) × (i.count + 1 ≡ r.low)
    from true true e f h = (same_replica i.replica r.replica e, eqb-true _ _ f)
    from true false e f h = absurd (true≢false (sym h))
    from false b e f h = absurd (true≢false (sym h))

not_touching : (i : Id) (r : Run) → i.replica ≡ r.replica → i.count < r.low → touches i r ≡ false → i.count + 1 < r.low
not_touching i r e lt h =
    let tied : is_eq (replica_cmp i.replica r.replica) ≡ true = subst (λ q. is_eq (replica_cmp i.replica q) ≡ true) e (replica_itself i.replica) in
    far i.count r.low lt (sym (ap (λ b. b && eqb (i.count + 1) r.low) tied) ∙ h)
  where
    far : (a b : ℕ) → a < b → eqb (a + 1) b ≡ false → a + 1 < b
    far a b lt e = grind (arith, nat_tests)

replaced : (s r : Run) (rs : List Run) → AreRuns (r ∷ rs) → IsRun s → s.replica ≡ r.replica → s.high ≡ r.high → AreRuns (s ∷ rs)
replaced s r [] are is e f = is
replaced s r (t ∷ rs) are is e f = (is, apart are.1, are.2)
  where
    apart : IsApart r t → IsApart s t
    apart (inl a) = inl (subst (λ q. IsBelow q t.replica) (sym e) a)
    apart (inr b) = inr (e ∙ b.0, (let k : r.high + 1 < t.low = b.1 in omega arith))

head_run : (r : Run) (rs : List Run) → AreRuns (r ∷ rs) → IsRun r
head_run r [] are = are
head_run r (s ∷ rs) are = are.0

begin_runs : (i j : Id) (rs : List Run) → 1 ≤ i.count → IsSooner i j → BeginsAt j rs → AreRuns rs → AreRuns (begin i rs)
begin_runs i j [] some s at are = absurd at
begin_runs i j (r ∷ rs) some s at are = from (touches i r) refl
  where
    is : IsRun r
    is = head_run r rs are

    from : (b : Bool) → touches i r ≡ b → AreRuns (begin i (r ∷ rs))
    from true h =
        let t = touching i r h in
        let low : r.low ≤ r.high = is.1 in
        subst AreRuns (sym (cond-true (touches i r) (grown i r ∷ rs) (run_of i ∷ r ∷ rs) h)) (replaced (grown i r) r rs are (some, (let k : i.count + 1 ≡ r.low = t.1 in omega arith)) t.0 refl)
    from false h =
        subst AreRuns (sym (cond-false (touches i r) (grown i r ∷ rs) (run_of i ∷ r ∷ rs) h)) ((some, omega arith), apart s, are)
      where
        apart : IsSooner i j → IsApart (run_of i) r
        apart (inl a) = inl (subst (λ q. IsBelow i.replica q) (sym at.0) a)
        apart (inr b) = inr (b.0 ∙ sym at.0, not_touching i r (b.0 ∙ sym at.0) (let k : i.count < j.count = b.1 in let l : r.low ≡ j.count = at.1 in omega arith) h)

pub runs_are : (is : List Id) → Climbs id_cmp is → ((i : Id) → list_any (eq_by_cmp id_cmp i) is ≡ true → IsId i) → AreRuns (runs_from is)
runs_are [] up each = tt
runs_are (i ∷ []) up each = let k : 1 ≤ i.count = (each i (or_left _ _ (ap is_eq (tied_itself id_total i)))).positive in (k, omega arith)
runs_are (i ∷ j ∷ is) up each =
    begin_runs i j (runs_from (j ∷ is)) (each i (or_left _ _ (ap is_eq (tied_itself id_total i)))).positive (sooner i j up.0.0) (begins j (runs_from is))
    (runs_are (j ∷ is) up.1 (λ k h. each k (or_right (eq_by_cmp id_cmp k i) _ h)))

-- ---- the ids of the runs

in_one : (k i : Id) → is_in_run k (run_of i) ≡ eq_by_cmp id_cmp k i
in_one k i = from (is_eq (replica_cmp k.replica i.replica)) k.count i.count ∙ sym (sym (tied_then (replica_cmp k.replica i.replica) (nat_cmp k.count i.count)) ∙ (λ j. is_eq (replica_cmp k.replica i.replica) && unsigned_tied k.count i.count j))
  where
    at_true : (a b : ℕ) → (leb b a && leb a b) ≡ eqb a b
    at_true a b = grind (arith, nat_tests)

    from : (t : Bool) (a b : ℕ) → (t && (leb b a && leb a b)) ≡ (t && eqb a b)
    from true a b = at_true a b
    from false a b = refl

in_grown : (k i : Id) (r : Run) → touches i r ≡ true → r.low ≤ r.high → is_in_run k (grown i r) ≡ (is_in_run k (run_of i) || is_in_run k r)
in_grown k i r h low =
    let t = touching i r h in
    from (is_eq (replica_cmp k.replica i.replica)) k.count i.count r.low r.high t.1 low
    ∙ (λ j. is_in_run k (run_of i) || (is_eq (replica_cmp k.replica (t.0 j)) && (leb r.low k.count && leb k.count r.high)))
  where
    at_true : (y c l h : ℕ) → c + 1 ≡ l → l ≤ h → (leb c y && leb y h) ≡ ((leb c y && leb y c) || (leb l y && leb y h))
    at_true y c l h e f = grind (arith, nat_tests)

    from : (b : Bool) (y c l h : ℕ) → c + 1 ≡ l → l ≤ h → (b && (leb c y && leb y h)) ≡ ((b && (leb c y && leb y c)) || (b && (leb l y && leb y h)))
    from true y c l h e f = at_true y c l h e f
    from false y c l h e f = refl

in_begun : (k i : Id) (rs : List Run) → AreRuns rs → is_in_runs k (begin i rs) ≡ (eq_by_cmp id_cmp k i || is_in_runs k rs)
in_begun k i [] are = ap (λ b. b || false) (in_one k i)
in_begun k i (r ∷ rs) are = from (touches i r) refl
  where
    from : (b : Bool) → touches i r ≡ b → is_in_runs k (begin i (r ∷ rs)) ≡ (eq_by_cmp id_cmp k i || (is_in_run k r || is_in_runs k rs))
    from true h =
        ap (is_in_runs k) (cond-true (touches i r) (grown i r ∷ rs) (run_of i ∷ r ∷ rs) h)
        ∙ ap (λ b. b || is_in_runs k rs) (in_grown k i r h (head_run r rs are).1 ∙ ap (λ b. b || is_in_run k r) (in_one k i))
        ∙ or_assoc (eq_by_cmp id_cmp k i) (is_in_run k r) (is_in_runs k rs)
    from false h = ap (is_in_runs k) (cond-false (touches i r) (grown i r ∷ rs) (run_of i ∷ r ∷ rs) h) ∙ ap (λ b. b || (is_in_run k r || is_in_runs k rs)) (in_one k i)

in_made : (k : Id) (is : List Id) → Climbs id_cmp is → ((i : Id) → list_any (eq_by_cmp id_cmp i) is ≡ true → IsId i) → is_in_runs k (runs_from is) ≡ list_any (eq_by_cmp id_cmp k) is
in_made k [] up each = refl
in_made k (i ∷ is) up each =
    let each' : (j : Id) → list_any (eq_by_cmp id_cmp j) is ≡ true → IsId j = λ j h. each j (or_right (eq_by_cmp id_cmp j i) _ h) in
    in_begun k i (runs_from is) (runs_are is up.1 each') ∙ ap (λ b. eq_by_cmp id_cmp k i || b) (in_made k is up.1 each')

-- runs that have exactly the ids of a set
pub runs_of_ids : (s : Ids) → ((i : Id) → set.contains s i ≡ true → IsId i) → (rs : List Run) × AreRuns rs × (seen_of rs ≡ s)
runs_of_ids s each =
    let is = set.items s in
    let ids : (i : Id) → list_any (eq_by_cmp id_cmp i) is ≡ true → IsId i = λ i h. each i (contains-items s i ∙ h) in
    (runs_from is, runs_are is (items_climb id_cmp s) ids, same_set id_total id_exact _ _ (λ k. contains-seen_of (runs_from is) k ∙ in_made k is (items_climb id_cmp s) ids ∙ sym (contains-items s k)))
