-- Lists of maximal runs that have the same ids are equal.
use Rattle.std.proofs.Common.{◌≡◌, ℕ, ◌+◌, ◌≤◌, true, false, ◌||◌, List, [], ◌∷◌, refl, sym, ap, ◌∙◌, subst, inl, inr, ◌⊎◌, arith}
use Rattle.std.proofs.lemmas.Bool.{true≢false, or_cases, or_left, false_from_ne_true, cases_lt}
use Rattle.reg_op.specs.Set as set
use Rattle.reg_op.specs.Ids.{Id}
use Rattle.reg_state.specs.declared.run.Run.{Run}
use Rattle.reg_state.specs.Runs.{IsBelow, id_at, is_in_run, is_in_runs, IsBeyond, IsRun, IsApart, AreRuns, seen_of}
use Rattle.reg_state.proofs.RunLemmas.{below_chain, not_below_itself, not_below_same, contains-seen_of, first_run, rest_runs}
use Rattle.reg_state.proofs.SearchLemmas.{IsWithin, within, in_run}

pub run_has : (r : Run) (c : ℕ) → r.low ≤ c → c ≤ r.high → is_in_run (id_at r.replica c) r ≡ true
run_has r c h k = in_run (id_at r.replica c) r (record { replica = refl; low = h; high = k })

beyond_in : (r s : Run) (i : Id) → IsApart r s → IsWithin i s → IsBeyond r i
beyond_in r s i (inl a) w = inl (subst (λ q. IsBelow r.replica q) (sym w.replica) a)
beyond_in r s i (inr a) w = inr (a.0 ∙ sym w.replica, omega (arith, a.1, w.low))

beyond_on : (r s : Run) (i : Id) → IsApart r s → IsRun s → IsBeyond s i → IsBeyond r i
beyond_on r s i (inl a) is (inl b) = inl (below_chain r.replica s.replica i.replica a b)
beyond_on r s i (inl a) is (inr b) = inl (subst (λ q. IsBelow r.replica q) b.0 a)
beyond_on r s i (inr a) is (inl b) = inl (subst (λ q. IsBelow q i.replica) (sym a.0) b)
beyond_on r s i (inr a) is (inr b) = inr (a.0 ∙ b.0, omega (arith, a.1, b.1, is.1))

pub far_from : (r : Run) (rs : List Run) (i : Id) → AreRuns (r ∷ rs) → is_in_runs i rs ≡ true → IsBeyond r i
far_from r [] i h k = absurd (true≢false (sym k))
far_from r (s ∷ ss) i h k = elim (or_cases (is_in_run i s) (is_in_runs i ss) k) [
  | inl e ↦ beyond_in r s i h.1 (within i s e)
  | inr e ↦ beyond_on r s i h.1 (first_run s ss h.2) (far_from s ss i h.2 e)
]

-- i is no earlier than the first id of s
abbrev pub IsFrom : Run → Id → Type 0
IsFrom s i = IsBelow s.replica i.replica ⊎ ((s.replica ≡ i.replica) × (s.low ≤ i.count))

pub from_first : (s : Run) (ss : List Run) (i : Id) → AreRuns (s ∷ ss) → is_in_runs i (s ∷ ss) ≡ true → IsFrom s i
from_first s ss i h k = elim (or_cases (is_in_run i s) (is_in_runs i ss) k) [
  | inl e ↦ let w = within i s e in inr (sym w.replica, w.low)
  | inr e ↦ elim (far_from s ss i h e) [ inl a ↦ inl a | inr b ↦ let is = first_run s ss h in inr (b.0, omega (arith, b.1, is.1)) ]
]

same_start : (a c : List ℕ) (b d : ℕ) → IsBelow a c ⊎ ((a ≡ c) × (b ≤ d)) → IsBelow c a ⊎ ((c ≡ a) × (d ≤ b)) → (a ≡ c) × (b ≡ d)
same_start a c b d (inl h) (inl k) = absurd (not_below_itself a (below_chain a c a h k))
same_start a c b d (inl h) (inr k) = absurd (not_below_same a c (sym k.0) h)
same_start a c b d (inr h) (inl k) = absurd (not_below_same c a (sym h.0) k)
same_start a c b d (inr h) (inr k) = (h.0, omega (arith, h.1, k.1))

abbrev Same : List Run → List Run → Type 0
Same rs ss = (i : Id) → is_in_runs i rs ≡ is_in_runs i ss

starts : (r s : Run) (rs ss : List Run) → AreRuns (r ∷ rs) → AreRuns (s ∷ ss) → Same (r ∷ rs) (s ∷ ss) → IsBelow s.replica r.replica ⊎ ((s.replica ≡ r.replica) × (s.low ≤ r.low))
starts r s rs ss h k e =
    let is = first_run r rs h in
    from_first s ss (id_at r.replica r.low) k (sym (e _) ∙ or_left _ _ (run_has r r.low (omega arith) is.1))

-- if lists of runs have the same ids and begin at the same id, the first run of one ends no later than that of the other
ends : (r s : Run) (rs ss : List Run) → AreRuns (r ∷ rs) → AreRuns (s ∷ ss) → Same (r ∷ rs) (s ∷ ss) → r.replica ≡ s.replica → r.low ≡ s.low → s.high ≤ r.high
ends r s rs ss h k e a b =
    elim (cases_lt r.high s.high) [
      | inr done ↦ done
      | inl sooner ↦
          let is = first_run r rs h in
          let i : Id = id_at s.replica (r.high + 1) in
          let there : is_in_runs i (r ∷ rs) ≡ true = e i ∙ or_left _ _ (run_has s (r.high + 1) (omega (arith, is.1)) (omega arith)) in
          absurd (elim (or_cases (is_in_run i r) (is_in_runs i rs) there) [
            | inl w ↦ let x = within i r w in omega (arith, x.high)
            | inr w ↦ elim (far_from r rs i h w) [ inl x ↦ not_below_same r.replica s.replica a x | inr x ↦ omega (arith, x.1) ]
          ])
    ]

pub apart_from : (r : Run) (rs : List Run) (i : Id) → AreRuns (r ∷ rs) → is_in_run i r ≡ true → is_in_runs i rs ≡ false
apart_from r rs i h k = false_from_ne_true _ (λ e.
    let w = within i r k in
    elim (far_from r rs i h e) [ inl x ↦ not_below_same r.replica i.replica (sym w.replica) x | inr x ↦ omega (arith, x.1, w.high) ])

rest_same : (r : Run) (rs ss : List Run) → AreRuns (r ∷ rs) → AreRuns (r ∷ ss) → Same (r ∷ rs) (r ∷ ss) → Same rs ss
rest_same r rs ss h k e i =
    elim (is_in_run i r) as (λ b. is_in_run i r ≡ b → (b || is_in_runs i rs) ≡ (b || is_in_runs i ss) → is_in_runs i rs ≡ is_in_runs i ss) [
      | true ↦ λ at _. apart_from r rs i h at ∙ sym (apart_from r ss i k at)
      | false ↦ λ _ f. f
    ] refl (e i)

same_run : (r s : Run) → r.replica ≡ s.replica → r.low ≡ s.low → r.high ≡ s.high → r ≡ s
same_run r s a b c = λ k. record { replica = a k; low = b k; high = c k }

equal_runs : (rs ss : List Run) → AreRuns rs → AreRuns ss → Same rs ss → rs ≡ ss
equal_runs [] [] h k e = refl
equal_runs [] (s ∷ ss) h k e = let is = first_run s ss k in absurd (true≢false (sym (e (id_at s.replica s.low) ∙ or_left _ _ (run_has s s.low (omega arith) is.1))))
equal_runs (r ∷ rs) [] h k e = let is = first_run r rs h in absurd (true≢false (sym (or_left _ _ (run_has r r.low (omega arith) is.1)) ∙ e (id_at r.replica r.low)))
equal_runs (r ∷ rs) (s ∷ ss) h k e =
    let back : Same (s ∷ ss) (r ∷ rs) = λ i. sym (e i) in
    let at = same_start s.replica r.replica s.low r.low (starts r s rs ss h k e) (starts s r ss rs k h back) in
    let one = ends r s rs ss h k e (sym at.0) (sym at.1) in
    let two = ends s r ss rs k h back at.0 at.1 in
    let is : r ≡ s = same_run r s (sym at.0) (sym at.1) (omega (arith, one, two)) in
    let k' : AreRuns (r ∷ ss) = subst (λ x. AreRuns (x ∷ ss)) (sym is) k in
    let e' : Same (r ∷ rs) (r ∷ ss) = subst (λ x. Same (r ∷ rs) (x ∷ ss)) (sym is) e in
    λ j. is j ∷ equal_runs rs ss (rest_runs r rs h) (rest_runs r ss k') (rest_same r rs ss h k' e') j

pub same_runs : (rs ss : List Run) → AreRuns rs → AreRuns ss → seen_of rs ≡ seen_of ss → rs ≡ ss
same_runs rs ss h k e = equal_runs rs ss h k (λ i. sym (contains-seen_of rs i) ∙ ap (λ s. set.contains s i) e ∙ contains-seen_of ss i)
