-- The gaps between runs are the longest ranges of missing counts.
use Rattle.std.proofs.Common.{◌≡◌, ℕ, ◌+◌, ◌-◌, ◌<◌, ◌≤◌, nat_lt, append-nil, Bool, true, false, cond, List, [], ◌∷◌, ◌++◌, length, Option, Some, None, zero, suc, refl, sym, ap, ◌∙◌, subst, inl, inr, ◌⊎◌, arith}
use Rattle.std.proofs.lemmas.Bool.{true≢false, or_cases, or_left, or_right, false_from_ne_true, cases_lt, lt-ltb, ltb-true}
use Rattle.std.proofs.lemmas.List.Elements.{Contains-append_left, Contains-append_right, Contains-append_cases}
use Rattle.std.specs.List.{Contains}
use Rattle.std.specs.Ordering.{is_eq}
use Rattle.reg_op.specs.Set as set
use Rattle.reg_op.specs.Ids.{Id, Ids}
use Rattle.reg_state.specs.declared.run.Run.{Run}
use Rattle.reg_state.specs.Runs.{replica_cmp, IsBelow, IsRun, IsApart, AreRuns, id_at, is_in_run, is_in_runs, seen_of}
use Rattle.reg_state.proofs.RunLemmas.{same_replica, replica_itself, below_chain, not_below_itself, not_below_same, first_run, contains-seen_of}
use Rattle.reg_state.proofs.SearchLemmas.{IsWithin, within, in_run}
use Rattle.reg_report.specs.declared.gap.Gap.{Gap}
use Rattle.reg_report.specs.Between.{last_count, gaps_at, gaps_between}
use Rattle.reg_report.specs.Gaps.{IsGap, ComesFirst, AllLater, Ascend, AreGaps}
use Rattle.reg_report.proofs.ConflictLemmas.{none_in}

-- ---- ids in runs

abbrev In : Id → List Run → Type 0
In i [] = ⊥
In i (r ∷ rs) = IsWithin i r ⊎ In i rs

to_in : (i : Id) (rs : List Run) → is_in_runs i rs ≡ true → In i rs
to_in i [] h = absurd (true≢false (sym h))
to_in i (r ∷ rs) h = elim (or_cases (is_in_run i r) (is_in_runs i rs) h) [ inl a ↦ inl (within i r a) | inr b ↦ inr (to_in i rs b) ]

from_in : (i : Id) (rs : List Run) → In i rs → is_in_runs i rs ≡ true
from_in i [] h = absurd h
from_in i (r ∷ rs) (inl w) = or_left _ _ (in_run i r w)
from_in i (r ∷ rs) (inr m) = or_right (is_in_run i r) _ (from_in i rs m)

abbrev InOne : Id → Option Run → Type 0
InOne i None = ⊥
InOne i (Some r) = IsWithin i r

abbrev Past : Run → Id → Type 0
Past r i = IsBelow r.replica i.replica ⊎ ((r.replica ≡ i.replica) × (r.high + 1 < i.count))

past_one : (r s : Run) (i : Id) → IsApart r s → IsWithin i s → Past r i
past_one r s i (inl b) w = inl (subst (λ x. IsBelow r.replica x) (sym w.replica) b)
past_one r s i (inr p) w = inr (p.0 ∙ sym w.replica, omega (arith, p.1, w.low))

past_chain : (r s : Run) (i : Id) → IsRun s → IsApart r s → Past s i → Past r i
past_chain r s i is (inl b) (inl c) = inl (below_chain r.replica s.replica i.replica b c)
past_chain r s i is (inl b) (inr c) = inl (subst (λ x. IsBelow r.replica x) c.0 b)
past_chain r s i is (inr b) (inl c) = inl (subst (λ x. IsBelow x i.replica) (sym b.0) c)
past_chain r s i is (inr b) (inr c) = inr (b.0 ∙ c.0, omega (arith, b.1, c.1, is.1))

later : (r : Run) (rs : List Run) → AreRuns (r ∷ rs) → (i : Id) → In i rs → Past r i
later r [] h i m = absurd m
later r (s ∷ ss) h i (inl w) = past_one r s i h.1 w
later r (s ∷ ss) h i (inr m) = past_chain r s i (first_run s ss h.2) h.1 (later s ss h.2 i m)

-- ---- the run before

abbrev Good : Option Run → List Run → Type 0
Good None rs = AreRuns rs
Good (Some l) rs = AreRuns (l ∷ rs)

good_next : (before : Option Run) (r : Run) (rs : List Run) → Good before (r ∷ rs) → AreRuns (r ∷ rs)
good_next None r rs h = h
good_next (Some l) r rs h = h.2

abbrev AfterAt : Option Run → List ℕ → ℕ → Type 0
AfterAt None q low = Unit {0}
AfterAt (Some l) q low = IsBelow l.replica q ⊎ ((l.replica ≡ q) × (l.high < low))

-- b is the last count of the replica in the run before r, or 0 if that has none
record Known (b : ℕ) (before : Option Run) (r : Run) : Type 0 where
  less : b < r.low
  there : (b ≡ 0) ⊎ InOne (id_at r.replica b) before
  none : (n : ℕ) → b < n → InOne (id_at r.replica n) before → ⊥
  after : AfterAt before r.replica (b + 1)

other : (a b : List ℕ) → IsBelow a b → is_eq (replica_cmp a b) ≡ false
other a b h = false_from_ne_true _ (λ e. not_below_same a b (same_replica a b e) h)

known : (before : Option Run) (r : Run) (rs : List Run) → Good before (r ∷ rs) → Known (last_count before r.replica) before r
known None r rs h = let is = first_run r rs h in record { less = omega (arith, is.0); there = inl refl; none = λ n k m. m; after = tt }
known (Some l) r rs h = elim h.1 [
  | inl b ↦ subst (λ (t : Bool). Known (cond t l.high 0) (Some l) r) (sym (other l.replica r.replica b)) (record {
    less = let is = first_run r rs h.2 in omega (arith, is.0);
    there = inl refl;
    none = λ n k m. not_below_same l.replica r.replica (sym m.replica) b;
    after = inl b;
  })
  | inr p ↦ subst (λ (t : Bool). Known (cond t l.high 0) (Some l) r) (sym (ap (λ x. is_eq (replica_cmp x r.replica)) p.0 ∙ replica_itself r.replica)) (record {
    less = omega (arith, p.1);
    there = inr (record { replica = sym p.0; low = h.0.1; high = omega arith });
    none = λ n k m. let m' : n ≤ l.high = m.high in absurd (omega arith);
    after = inr (p.0, omega arith);
  })
]

-- the run before has no count from `low` on, if `low` is after it; nor the count before `low`, if `low` is after r
not_last : (before : Option Run) (q : List ℕ) (low n : ℕ) → AfterAt before q low → low ≤ n → InOne (id_at q n) before → ⊥
not_last None q low n a h m = m
not_last (Some l) q low n (inl b) h m = not_below_same l.replica q (sym m.replica) b
not_last (Some l) q low n (inr p) h m = let m' : n ≤ l.high = m.high in absurd (omega (arith, p.1))

not_far : (before : Option Run) (r : Run) (rs : List Run) (q : List ℕ) (low n : ℕ) → Good before (r ∷ rs) → AfterAt (Some r) q low → low ≤ n + 1 → InOne (id_at q n) before → ⊥
not_far None r rs q low n g a h m = m
not_far (Some l) r rs q low n g a h m =
    let is = first_run r rs g.2 in
    let high : n ≤ l.high = m.high in
    let same : l.replica ≡ q = sym m.replica in
    elim a [
      | inl b ↦ elim g.1 [
        | inl c ↦ not_below_same l.replica q same (below_chain l.replica r.replica q c b)
        | inr p ↦ not_below_same r.replica q (sym p.0 ∙ same) b
      ]
      | inr b ↦ elim g.1 [
        | inl c ↦ not_below_same l.replica r.replica (same ∙ sym b.0) c
        | inr p ↦ absurd (omega (arith, p.1, b.1, is.1))
      ]
    ]

after_chain : (before : Option Run) (r : Run) (rs : List Run) (q : List ℕ) (low : ℕ) → Good before (r ∷ rs) → AfterAt (Some r) q low → AfterAt before q low
after_chain None r rs q low g a = tt
after_chain (Some l) r rs q low g a =
    let is = first_run r rs g.2 in
    elim a [
      | inl b ↦ elim g.1 [ inl c ↦ inl (below_chain l.replica r.replica q c b) | inr p ↦ inl (subst (λ x. IsBelow x q) (sym p.0) b) ]
      | inr b ↦ elim g.1 [ inl c ↦ inl (subst (λ x. IsBelow l.replica x) b.0 c) | inr p ↦ inr (p.0 ∙ b.0, omega (arith, p.1, b.1, is.1)) ]
    ]

-- ---- gaps among runs

record GapIn (before : Option Run) (rs : List Run) (q : List ℕ) (low high : ℕ) : Type 0 where
  some : low ≤ high
  counts : 1 ≤ low
  start : (low ≡ 1) ⊎ (InOne (id_at q (low - 1)) before ⊎ In (id_at q (low - 1)) rs)
  end : InOne (id_at q (high + 1)) before ⊎ In (id_at q (high + 1)) rs
  missing : (n : ℕ) → low ≤ n → n ≤ high → (InOne (id_at q n) before ⊎ In (id_at q n) rs) → ⊥

-- the counts between b and r, if there are some, are a gap
at_is : (b : ℕ) (before : Option Run) (r : Run) (rs : List Run) → Good before (r ∷ rs) → Known b before r → b + 1 < r.low → GapIn before (r ∷ rs) r.replica (b + 1) (r.low - 1)
at_is b before r rs g k h = let is = first_run r rs (good_next before r rs g) in record {
  some = omega arith;
  counts = omega arith;
  start = elim k.there [ inl e ↦ inl (omega arith) | inr m ↦ inr (inl (let e : b ≡ b + 1 - 1 = omega arith in subst (λ c. InOne (id_at r.replica c) before) e m)) ];
  end = inr (inl (record { replica = refl; low = omega arith; high = omega (arith, is.0, is.1) }));
  missing = λ n low high there. elim there [
    | inl m ↦ k.none n (omega arith) m
    | inr (inl w) ↦ (let l : r.low ≤ n = w.low in absurd (omega arith))
    | inr (inr m) ↦ elim (later r rs (good_next before r rs g) (id_at r.replica n) m) [
      | inl below ↦ not_below_itself r.replica below
      | inr p ↦ (let c : r.high + 1 < n = p.1 in absurd (omega (arith, is.1)))
    ]
  ];
}

-- a gap that begins after r is a gap of the whole list
behind : (before : Option Run) (r : Run) (rs : List Run) (q : List ℕ) (low high : ℕ) → Good before (r ∷ rs) → AfterAt (Some r) q low → GapIn (Some r) rs q low high → GapIn before (r ∷ rs) q low high
behind before r rs q low high g a i = record {
  some = i.some;
  counts = i.counts;
  start = elim i.start [ inl e ↦ inl e | inr (inl w) ↦ inr (inr (inl w)) | inr (inr m) ↦ inr (inr (inr m)) ];
  end = elim i.end [ inl w ↦ inr (inl w) | inr m ↦ inr (inr m) ];
  missing = λ n l h there. elim there [
    | inl m ↦ not_far before r rs q low n g a (omega arith) m
    | inr (inl w) ↦ i.missing n l h (inl w)
    | inr (inr m) ↦ i.missing n l h (inr m)
  ];
}

-- a gap that ends right before r begins right after b
ends_at : (b : ℕ) (before : Option Run) (r : Run) (rs : List Run) (q : List ℕ) (low high : ℕ) → Good before (r ∷ rs) → Known b before r → AfterAt before q low → GapIn before (r ∷ rs) q low high → IsWithin (id_at q (high + 1)) r
    → (low ≡ b + 1) × (high ≡ r.low - 1) × (b + 1 < r.low)
ends_at b before r rs q low high g k a i w =
    let is = first_run r rs (good_next before r rs g) in
    let same : q ≡ r.replica = w.replica in
    let to_run : high + 1 ≤ r.high = w.high in
    let from_run : r.low ≤ high + 1 = w.low in
    let end : high + 1 ≡ r.low = elim (cases_lt high r.low) [
      | inl h ↦ omega arith
      | inr h ↦ absurd (i.missing high i.some (omega arith) (inr (inl (record { replica = same; low = h; high = omega arith }))))
    ] in
    let over : b < low = elim k.there [
      | inl e ↦ (let c : 1 ≤ low = i.counts in omega arith)
      | inr m ↦ elim (cases_lt b low) [
        | inl h ↦ h
        | inr h ↦ absurd (not_last before q low b a h (subst (λ x. InOne (id_at x b) before) (sym same) m))
      ]
    ] in
    let some : low ≤ high = i.some in
    let begin : low ≡ b + 1 = elim i.start [
      | inl e ↦ omega arith
      | inr (inl m) ↦ elim (cases_lt b (low - 1)) [
        | inl h ↦ absurd (k.none (low - 1) h (subst (λ x. InOne (id_at x (low - 1)) before) same m))
        | inr h ↦ omega arith
      ]
      | inr (inr (inl v)) ↦ (let l : r.low ≤ low - 1 = v.low in absurd (omega arith))
      | inr (inr (inr m)) ↦ elim (later r rs (good_next before r rs g) (id_at q (low - 1)) m) [
        | inl below ↦ absurd (not_below_same r.replica q (sym same) below)
        | inr p ↦ (let c : r.high + 1 < low - 1 = p.1 in absurd (omega arith))
      ]
    ] in
    (begin, omega arith, omega arith)

-- a gap that ends right before a later run begins after r
ends_behind : (before : Option Run) (r : Run) (rs : List Run) (q : List ℕ) (low high : ℕ) → Good before (r ∷ rs) → GapIn before (r ∷ rs) q low high → In (id_at q (high + 1)) rs → AfterAt (Some r) q low
ends_behind before r rs q low high g i m =
    let is = first_run r rs (good_next before r rs g) in
    elim (later r rs (good_next before r rs g) (id_at q (high + 1)) m) [
      | inl below ↦ inl below
      | inr p ↦ inr (
        p.0,
        elim (cases_lt r.high low) [
          | inl h ↦ h
          | inr h ↦ (let c : r.high + 1 < high + 1 = p.1 in absurd (i.missing r.high h (omega arith) (inr (inl (record { replica = sym p.0; low = is.1; high = omega arith })))))
        ],
      )
    ]

ahead : (before : Option Run) (r : Run) (rs : List Run) (q : List ℕ) (low high : ℕ) → Good before (r ∷ rs) → GapIn before (r ∷ rs) q low high → In (id_at q (high + 1)) rs → GapIn (Some r) rs q low high
ahead before r rs q low high g i m =
    let a = ends_behind before r rs q low high g i m in
    record {
      some = i.some;
      counts = i.counts;
      start = elim i.start [
        | inl e ↦ inl e
        | inr (inl v) ↦ (let c : 1 ≤ low = i.counts in absurd (not_far before r rs q low (low - 1) g a (omega arith) v))
        | inr (inr (inl w)) ↦ inr (inl w)
        | inr (inr (inr n)) ↦ inr (inr n)
      ];
      end = inr m;
      missing = λ n l h there. elim there [ inl w ↦ i.missing n l h (inr (inl w)) | inr k ↦ i.missing n l h (inr (inr k)) ];
    }

-- ---- the list of gaps

abbrev gap_at : Run → ℕ → Gap
gap_at r b = record { replica = r.replica; low = b + 1; high = r.low - 1 }

one_in : (g h : Gap) → Contains (h ∷ []) g → g ≡ h
one_in g h (zero, lt, e) = sym e
one_in g h (suc k, lt, e) = absurd (omega arith)

at_from : (before : Option Run) (r : Run) (g : Gap) → Contains (gaps_at before r) g → (last_count before r.replica + 1 < r.low) × (g ≡ gap_at r (last_count before r.replica))
at_from before r g h =
    elim (nat_lt (last_count before r.replica + 1) r.low) as (λ t. nat_lt (last_count before r.replica + 1) r.low ≡ t → Contains (cond t (gap_at r (last_count before r.replica) ∷ []) []) g → (last_count before r.replica + 1 < r.low) × (g ≡ gap_at r (last_count before r.replica))) [
      | true ↦ λ e h. (ltb-true (last_count before r.replica + 1) r.low e, one_in g (gap_at r (last_count before r.replica)) h)
      | false ↦ λ e h. absurd (none_in g h)
    ] refl h

at_has : (before : Option Run) (r : Run) → last_count before r.replica + 1 < r.low → Contains (gaps_at before r) (gap_at r (last_count before r.replica))
at_has before r h = subst (λ t. Contains (cond t (gap_at r (last_count before r.replica) ∷ []) []) (gap_at r (last_count before r.replica))) (sym (lt-ltb (last_count before r.replica + 1) r.low h)) (0, omega arith, refl)

sound : (before : Option Run) (rs : List Run) (g : Gap) → Good before rs → Contains (gaps_between before rs) g → GapIn before rs g.replica g.low g.high × AfterAt before g.replica g.low
sound before [] g good h = absurd (none_in g h)
sound before (r ∷ rs) g good h = elim (Contains-append_cases (gaps_at before r) (gaps_between (Some r) rs) g h) [
  | inl here ↦
      let p = at_from before r g here in
      let k = known before r rs good in
      subst (λ (x : Gap). GapIn before (r ∷ rs) x.replica x.low x.high × AfterAt before x.replica x.low) (sym p.1) (at_is (last_count before r.replica) before r rs good k p.0, k.after)
  | inr there ↦
      let i = sound (Some r) rs g (good_next before r rs good) there in
      (behind before r rs g.replica g.low g.high good i.1 i.0, after_chain before r rs g.replica g.low good i.1)
]

complete : (before : Option Run) (rs : List Run) (g : Gap) → Good before rs → GapIn before rs g.replica g.low g.high → AfterAt before g.replica g.low → Contains (gaps_between before rs) g
complete before [] g good i a = elim i.end [
  | inl m ↦ (let some : g.low ≤ g.high = i.some in absurd (not_last before g.replica g.low (g.high + 1) a (omega arith) m))
  | inr m ↦ absurd m
]
complete before (r ∷ rs) g good i a = elim i.end [
  | inl m ↦ (let some : g.low ≤ g.high = i.some in absurd (not_last before g.replica g.low (g.high + 1) a (omega arith) m))
  | inr (inl w) ↦
      let p = ends_at (last_count before r.replica) before r rs g.replica g.low g.high good (known before r rs good) a i w in
      let is : gap_at r (last_count before r.replica) ≡ g = λ k. record { replica = sym w.replica k; low = sym p.0 k; high = sym p.1 k } in
      Contains-append_left (gaps_at before r) (gaps_between (Some r) rs) g (subst (Contains (gaps_at before r)) is (at_has before r p.2))
  | inr (inr m) ↦
      Contains-append_right (gaps_at before r) (gaps_between (Some r) rs) g
      (complete (Some r) rs g (good_next before r rs good) (ahead before r rs g.replica g.low g.high good i m) (ends_behind before r rs g.replica g.low g.high good i m))
]

all_later : (g : Gap) (hs : List Gap) → ((h : Gap) → Contains hs h → ComesFirst g h) → AllLater g hs
all_later g [] each = tt
all_later g (h ∷ hs) each = (each h (0, omega arith, refl), all_later g hs (λ x m. each x (suc m.0, omega (arith, m.1), m.2)))

first_of : (r : Run) (b : ℕ) (h : Gap) → IsRun r → AfterAt (Some r) h.replica h.low → ComesFirst (gap_at r b) h
first_of r b h is (inl below) = inl below
first_of r b h is (inr p) = inr (p.0, omega (arith, p.1, is.1, is.0))

ascending : (before : Option Run) (rs : List Run) → Good before rs → Ascend (gaps_between before rs)
ascending before [] good = tt
ascending before (r ∷ rs) good =
    let next = good_next before r rs good in
    elim (nat_lt (last_count before r.replica + 1) r.low) as (λ t. Ascend (cond t (gap_at r (last_count before r.replica) ∷ []) [] ++ gaps_between (Some r) rs)) [
      | true ↦ (
        all_later (gap_at r (last_count before r.replica)) (gaps_between (Some r) rs) (λ h m. first_of r (last_count before r.replica) h (first_run r rs next) (sound (Some r) rs h next m).1),
        ascending (Some r) rs next,
      )
      | false ↦ ascending (Some r) rs next
    ]

-- ---- the gaps of a set of ids

from_seen : (rs : List Run) (i : Id) → set.contains (seen_of rs) i ≡ true → In i rs
from_seen rs i h = to_in i rs (sym (contains-seen_of rs i) ∙ h)

to_seen : (rs : List Run) (i : Id) → In i rs → set.contains (seen_of rs) i ≡ true
to_seen rs i m = contains-seen_of rs i ∙ from_in i rs m

is_gap : (rs : List Run) (g : Gap) → GapIn None rs g.replica g.low g.high → IsGap (seen_of rs) g
is_gap rs g i = record {
  counts = i.counts;
  some = i.some;
  missing = λ n l h. false_from_ne_true _ (λ k. i.missing n l h (inr (from_seen rs (id_at g.replica n) k)));
  below = elim i.start [ inl e ↦ inl e | inr (inl m) ↦ absurd m | inr (inr m) ↦ inr (to_seen rs (id_at g.replica (g.low - 1)) m) ];
  above = elim i.end [ inl m ↦ absurd m | inr m ↦ to_seen rs (id_at g.replica (g.high + 1)) m ];
}

gap_in : (rs : List Run) (g : Gap) → IsGap (seen_of rs) g → GapIn None rs g.replica g.low g.high
gap_in rs g i = record {
  some = i.some;
  counts = i.counts;
  start = elim i.below [ inl e ↦ inl e | inr k ↦ inr (inr (from_seen rs (id_at g.replica (g.low - 1)) k)) ];
  end = inr (from_seen rs (id_at g.replica (g.high + 1)) i.above);
  missing = λ n l h there. elim there [
    | inl m ↦ m
    | inr m ↦ true≢false (sym (to_seen rs (id_at g.replica n) m) ∙ i.missing n l h)
  ];
}

pub gaps_are : (rs : List Run) (seen : Ids) (gs : List Gap) → AreRuns rs → seen_of rs ≡ seen → gs ≡ gaps_between None rs → AreGaps seen gs
gaps_are rs seen gs runs all e = subst (λ (p : Ids × List Gap). AreGaps p.0 p.1) (λ k. (all k, sym e k)) (record {
  ascend = ascending None rs runs;
  each = λ g. (λ h. is_gap rs g (sound None rs g runs h).0, λ i. complete None rs g runs (gap_in rs g i) tt);
})

pub walked : (made : List Gap) (before : Option Run) (rest : List Run) (all : List Gap) → length rest ≡ 0 → made ++ gaps_between before rest ≡ all → made ≡ all
walked made before [] all h e = sym (append-nil made) ∙ e
walked made before (r ∷ rest) all h e = absurd (omega arith)
