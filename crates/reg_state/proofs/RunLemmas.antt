-- The ids of runs, and one more run at the end.
use Rattle.std.proofs.Common.{◌≡◌, ℕ, ◌+◌, ◌-◌, ◌<◌, ◌≤◌, zero, suc, Bool, true, false, ◌&&◌, ◌||◌, eqb, leb, ltb, max, List, [], ◌∷◌, ◌++◌, length, refl, sym, ap, ◌∙◌, subst, inl, inr, ◌⊎◌, arith}
use Rattle.std.proofs.lemmas.Bool.{and_from, or_left, or_right, le-leb, leb-true}
use Rattle.std.proofs.lemmas.Bool.Decides.{nat_tests}
use Rattle.std.proofs.lemmas.List.Folds.{list_any-append}
use Rattle.std.specs.List.{list_any}
use Rattle.std.specs.Bool.{OnTrue, OnFalse}
use Rattle.std.specs.Ordering.{eq_by_cmp, nat_cmp, is_eq, ordering_reverse}
use Rattle.std.specs.declared.cmp.Ordering.{Ordering}
use Rattle.std.specs.declared.cmp.Ordering.TheVariants.{Less, Equal, Greater}
use Rattle.std.specs.Cmp.{tied_then, unsigned_tied, Equal-is, tied_itself}
use Rattle.std.proofs.lemmas.Cmp.{nat_list_cmp_total}
use Rattle.std.proofs.Math.Bool.{or-false, or_assoc, or_comm}
use Rattle.reg_op.specs.Set as set
use Rattle.reg_op.specs.Set.{contains, contains-from_list}
use Rattle.reg_op.specs.Ids.{Id, IsId, id_cmp}
use Rattle.reg_op.proofs.OpLemmas.{id_total, id_exact, bytes_exact}
use Rattle.reg_state.specs.declared.run.Run.{Run}
use Rattle.reg_state.specs.Runs.{replica_cmp, IsBelow, id_at, last_of, ids_from, ids_of_run, ids_of_runs, seen_of, is_in_run, is_in_runs, IsApart, IsRun, AreRuns, EndInIds, BeginsBy, AllBegin, NextBegins, IsJoining}

-- ---- the order of replicas

pub same_replica : (a b : List ℕ) → is_eq (replica_cmp a b) ≡ true → a ≡ b
same_replica a b h = bytes_exact a b ((Equal-is (replica_cmp a b)).0 h)

pub replica_itself : (a : List ℕ) → is_eq (replica_cmp a a) ≡ true
replica_itself a = ap is_eq (tied_itself nat_list_cmp_total a)

pub below_chain : (a b c : List ℕ) → IsBelow a b → IsBelow b c → IsBelow a c
below_chain a b c h k = nat_list_cmp_total.trans a b c h k

pub not_below_itself : (a : List ℕ) → IsBelow a a → ⊥
not_below_itself a h = let e : ◌≡◌ {A = Ordering} Less Equal = sym h ∙ tied_itself nat_list_cmp_total a in absurd cc

pub not_below_same : (a b : List ℕ) → a ≡ b → IsBelow a b → ⊥
not_below_same a b e h = not_below_itself b (subst (λ x. IsBelow x b) e h)

tie : (i : Id) (r : List ℕ) (c : ℕ) → eq_by_cmp id_cmp i (id_at r c) ≡ (is_eq (replica_cmp i.replica r) && eqb i.count c)
tie i r c = sym (tied_then (replica_cmp i.replica r) (nat_cmp i.count c)) ∙ (λ k. is_eq (replica_cmp i.replica r) && unsigned_tied i.count c k)

from_none : (b : Bool) (y low : ℕ) → false ≡ (b && (leb low y && ltb y (low + 0)))
from_none true y low = from_none_true y low
  where
    from_none_true : (y low : ℕ) → false ≡ (leb low y && ltb y (low + 0))
    from_none_true y low = grind (arith, nat_tests)
from_none false y low = refl

from_more : (b : Bool) (y low n : ℕ) → ((b && eqb y low) || (b && (leb (low + 1) y && ltb y ((low + 1) + n)))) ≡ (b && (leb low y && ltb y (low + suc n)))
from_more true y low n = from_more_true y low n
  where
    from_more_true : (y low n : ℕ) → (eqb y low || (leb (low + 1) y && ltb y ((low + 1) + n))) ≡ (leb low y && ltb y (low + suc n))
    from_more_true y low n = grind (arith, nat_tests)
from_more false y low n = refl

from_one : (i : Id) (r : List ℕ) (low n : ℕ) → list_any (eq_by_cmp id_cmp i) (ids_from r low n) ≡ (is_eq (replica_cmp i.replica r) && (leb low i.count && ltb i.count (low + n)))
from_one i r low zero = from_none (is_eq (replica_cmp i.replica r)) i.count low
from_one i r low (suc n) = (λ k. tie i r low k || from_one i r (low + 1) n k) ∙ from_more (is_eq (replica_cmp i.replica r)) i.count low n

run_end : (b : Bool) (y low high : ℕ) → (b && (leb low y && ltb y (low + (high + 1 - low)))) ≡ (b && (leb low y && leb y high))
run_end true y low high = run_end_true y low high
  where
    run_end_true : (y low high : ℕ) → (leb low y && ltb y (low + (high + 1 - low))) ≡ (leb low y && leb y high)
    run_end_true y low high = grind (arith, nat_tests)
run_end false y low high = refl

in_runs_list : (i : Id) (rs : List Run) → list_any (eq_by_cmp id_cmp i) (ids_of_runs rs) ≡ is_in_runs i rs
in_runs_list i [] = refl
in_runs_list i (r ∷ rs) =
    list_any-append (eq_by_cmp id_cmp i) (ids_of_run r) (ids_of_runs rs)
    ∙ (λ k. (from_one i r.replica r.low (r.high + 1 - r.low) ∙ run_end (is_eq (replica_cmp i.replica r.replica)) i.count r.low r.high) k || in_runs_list i rs k)

pub contains-seen_of : (rs : List Run) (i : Id) → contains (seen_of rs) i ≡ is_in_runs i rs
contains-seen_of rs i = contains-from_list id_total (ids_of_runs rs) i ∙ in_runs_list i rs

pub AreRuns-last : (xs : List Run) (l : Run) → AreRuns (xs ++ l ∷ []) → IsRun l
AreRuns-last [] l h = h
AreRuns-last (x ∷ []) l h = h.2
AreRuns-last (x ∷ y ∷ ys) l h = AreRuns-last (y ∷ ys) l h.2

-- the last run may end at another count
pub AreRuns-grown : (xs : List Run) (l m : Run) → AreRuns (xs ++ l ∷ []) → IsRun m → m.replica ≡ l.replica → m.low ≡ l.low → AreRuns (xs ++ m ∷ [])
AreRuns-grown [] l m h is r w = is
AreRuns-grown (x ∷ []) l m h is r w = (h.0, elim h.1 [ inl a ↦ inl (subst (λ y. IsBelow x.replica y) (sym r) a) | inr b ↦ inr (b.0 ∙ sym r, omega (arith, b.1)) ], is)
AreRuns-grown (x ∷ y ∷ ys) l m h is r w = (h.0, h.1, AreRuns-grown (y ∷ ys) l m h.2 is r w)

-- a run that is apart from the last one may be appended
pub AreRuns-push : (xs : List Run) (l m : Run) → AreRuns (xs ++ l ∷ []) → IsRun m → IsApart l m → AreRuns ((xs ++ l ∷ []) ++ m ∷ [])
AreRuns-push [] l m h is apart = (h, apart, is)
AreRuns-push (x ∷ []) l m h is apart = (h.0, h.1, (h.2, apart, is))
AreRuns-push (x ∷ y ∷ ys) l m h is apart = (h.0, h.1, AreRuns-push (y ∷ ys) l m h.2 is apart)

begins_chain : (a b c : Run) → BeginsBy a b → BeginsBy b c → BeginsBy a c
begins_chain a b c (inl h) (inl k) = inl (below_chain a.replica b.replica c.replica h k)
begins_chain a b c (inl h) (inr k) = inl (subst (λ x. IsBelow a.replica x) k.0 h)
begins_chain a b c (inr h) (inl k) = inl (subst (λ x. IsBelow x c.replica) (sym h.0) k)
begins_chain a b c (inr h) (inr k) = inr (h.0 ∙ k.0, omega (arith, h.1, k.1))

pub AllBegin-later : (xs : List Run) (s t : Run) → AllBegin xs s → BeginsBy s t → AllBegin xs t
AllBegin-later [] s t h k = tt
AllBegin-later (x ∷ xs) s t h k = (begins_chain x s t h.0 k, AllBegin-later xs s t h.1 k)

pub AllBegin-push : (xs : List Run) (l s : Run) → AllBegin xs s → BeginsBy l s → AllBegin (xs ++ l ∷ []) s
AllBegin-push [] l s h k = (k, tt)
AllBegin-push (x ∷ xs) l s h k = (h.0, AllBegin-push xs l s h.1 k)

pub AllBegin-parts : (xs : List Run) (l s : Run) → AllBegin (xs ++ l ∷ []) s → AllBegin xs s × BeginsBy l s
AllBegin-parts [] l s h = (tt, h.0)
AllBegin-parts (x ∷ xs) l s h = let rest = AllBegin-parts xs l s h.1 in ((h.0, rest.0), rest.1)

pub in_runs-push : (i : Id) (xs : List Run) (l : Run) → is_in_runs i (xs ++ l ∷ []) ≡ (is_in_runs i xs || is_in_run i l)
in_runs-push i xs l = list_any-append (is_in_run i) xs (l ∷ []) ∙ ap (λ b. is_in_runs i xs || b) (or-false (is_in_run i l))

-- if m begins within l or right after it, a run from l.low to the greater end has the ids of both
pub in_run-grown : (i : Id) (l m : Run) → l.replica ≡ m.replica → l.low ≤ m.low → m.low ≤ l.high + 1 → IsRun l → IsRun m
    → is_in_run i (record { replica = l.replica; low = l.low; high = max l.high m.high }) ≡ (is_in_run i l || is_in_run i m)
in_run-grown i l m r w t a b =
    from (is_eq (replica_cmp i.replica l.replica)) i.count l.low l.high m.low m.high w t a.1 b.1
    ∙ (λ k. is_in_run i l || (is_eq (replica_cmp i.replica (r k)) && (leb m.low i.count && leb i.count m.high)))
  where
    from : (b : Bool) (y ll lh ml mh : ℕ) → ll ≤ ml → ml ≤ lh + 1 → ll ≤ lh → ml ≤ mh → (b && (leb ll y && leb y (max lh mh))) ≡ ((b && (leb ll y && leb y lh)) || (b && (leb ml y && leb y mh)))
    from true y ll lh ml mh w t a b = at_true y ll lh ml mh w t a b
      where
        at_true : (y ll lh ml mh : ℕ) → ll ≤ ml → ml ≤ lh + 1 → ll ≤ lh → ml ≤ mh → (leb ll y && leb y (max lh mh)) ≡ ((leb ll y && leb y lh) || (leb ml y && leb y mh))
        at_true y ll lh ml mh w t a b = grind (arith, nat_tests)
    from false y ll lh ml mh w t a b = refl

-- `new` has the ids of `old` and `run`, and begins no later than any run that `run` begins no later than
pub record IsPushed (old new : List Run) (run : Run) : Type 0 where
  pub runs : AreRuns new
  pub covered : (i : Id) → is_in_runs i new ≡ (is_in_runs i old || is_in_run i run)
  pub order : (s : Run) → BeginsBy run s → AllBegin new s
  pub ids : EndInIds old → IsId (last_of run) → EndInIds new

pub EndInIds-push : (xs : List Run) (l : Run) → EndInIds xs → IsId (last_of l) → EndInIds (xs ++ l ∷ [])
EndInIds-push [] l h k = (k, tt)
EndInIds-push (x ∷ xs) l h k = (h.0, EndInIds-push xs l h.1 k)

EndInIds-parts : (xs : List Run) (l : Run) → EndInIds (xs ++ l ∷ []) → EndInIds xs × IsId (last_of l)
EndInIds-parts [] l h = (tt, h.0)
EndInIds-parts (x ∷ xs) l h = let rest = EndInIds-parts xs l h.1 in ((h.0, rest.0), rest.1)

-- if the last ids of two runs of a replica are valid, so is the last id of the joined run
grown_end : (l m : Run) (high : ℕ) → high ≡ max l.high m.high → l.replica ≡ m.replica → IsId (last_of l) → IsId (last_of m) → IsId (id_at l.replica high)
grown_end l m high top r h k =
    elim (one_of high l.high m.high top) [
      | inl e ↦ subst (λ n. IsId (id_at l.replica n)) (sym e) h
      | inr e ↦ subst (λ (p : List ℕ × ℕ). IsId (id_at p.0 p.1)) (λ j. (sym r j, sym e j)) k
    ]
  where
    one_of : (a b c : ℕ) → a ≡ max b c → (a ≡ b) ⊎ (a ≡ c)
    one_of a b c h = grind arith

low_by : (l m : Run) → BeginsBy l m → l.replica ≡ m.replica → l.low ≤ m.low
low_by l m h e = elim h [ inl a ↦ absurd (not_below_same l.replica m.replica e a) | inr b ↦ b.1 ]

pub pushed_grown : (xs : List Run) (l m : Run) (high : ℕ) → high ≡ max l.high m.high → AreRuns (xs ++ l ∷ []) → IsRun m → AllBegin (xs ++ l ∷ []) m → l.replica ≡ m.replica → m.low - 1 ≤ l.high
    → IsPushed (xs ++ l ∷ []) (xs ++ record { replica = l.replica; low = l.low; high = high } ∷ []) m
pushed_grown xs l m high top are is begins r near =
    let grown : Run = record { replica = l.replica; low = l.low; high = high } in
    let parts = AllBegin-parts xs l m begins in
    let low = low_by l m parts.1 r in
    let l_is = AreRuns-last xs l are in
    let is_grown : IsRun grown = (l_is.0, omega arith) in
    record {
      runs = AreRuns-grown xs l grown are is_grown refl refl;
      covered = λ i. in_runs-push i xs grown
          ∙ ap (λ b. is_in_runs i xs || b) (ap (λ h. is_in_run i (record { replica = l.replica; low = l.low; high = h })) top ∙ in_run-grown i l m r low (omega arith) l_is is)
          ∙ sym (or_assoc (is_in_runs i xs) (is_in_run i l) (is_in_run i m))
          ∙ sym (ap (λ b. b || is_in_run i m) (in_runs-push i xs l));
      order = λ s h. AllBegin-push xs grown s (AllBegin-later xs m s parts.0 h) (begins_chain l m s parts.1 h);
      ids = λ h k. let p = EndInIds-parts xs l h in EndInIds-push xs grown p.0 (grown_end l m high top r p.1 k);
    }

pub pushed_apart : (xs : List Run) (l m : Run) → AreRuns (xs ++ l ∷ []) → IsRun m → AllBegin (xs ++ l ∷ []) m → ((l.replica ≡ m.replica → ⊥) ⊎ (l.high < m.low - 1))
    → IsPushed (xs ++ l ∷ []) ((xs ++ l ∷ []) ++ m ∷ []) m
pushed_apart xs l m are is begins far =
    let parts = AllBegin-parts xs l m begins in
    let apart : IsApart l m = elim far [
      | inl differ ↦ elim parts.1 [ inl a ↦ inl a | inr b ↦ absurd (differ b.0) ]
      | inr above ↦ elim parts.1 [ inl a ↦ inl a | inr b ↦ inr (b.0, omega arith) ]
    ] in
    record {
      runs = AreRuns-push xs l m are is apart;
      covered = λ i. in_runs-push i (xs ++ l ∷ []) m;
      order = λ s h. AllBegin-push (xs ++ l ∷ []) m s (AllBegin-later (xs ++ l ∷ []) m s begins h) (itself m s h);
      ids = λ h k. EndInIds-push (xs ++ l ∷ []) m h k;
    }
  where
    itself : (m s : Run) → BeginsBy m s → BeginsBy m s
    itself m s h = h

pub IsPushed-at : (old old' new new' : List Run) (run : Run) → old ≡ old' → new ≡ new' → IsPushed old new run → IsPushed old' new' run
IsPushed-at old old' new new' run e f h = subst (λ xs. IsPushed xs new' run) e (subst (λ ys. IsPushed old ys run) f h)

-- the set of runs that have the ids of two lists is the union of their sets
pub seen_of-joined : (new left right : List Run) → ((i : Id) → is_in_runs i new ≡ (is_in_runs i left || is_in_runs i right)) → seen_of new ≡ set.union (seen_of left) (seen_of right)
seen_of-joined new left right covered = set.same_set id_total id_exact _ _ (λ i.
    contains-seen_of new i ∙ covered i
    ∙ sym (set.contains-union id_total (seen_of left) (seen_of right) i ∙ (λ k. contains-seen_of left i k || contains-seen_of right i k)))

pub rest_runs : (a : Run) (more : List Run) → AreRuns (a ∷ more) → AreRuns more
rest_runs a [] h = tt
rest_runs a (b ∷ bs) h = h.2

pub first_run : (a : Run) (more : List Run) → AreRuns (a ∷ more) → IsRun a
first_run a [] h = h
first_run a (b ∷ bs) h = h.0

begins_apart : (a b : Run) → IsRun a → IsApart a b → BeginsBy a b
begins_apart a b is h = elim h [ inl x ↦ inl x | inr y ↦ inr (y.0, omega arith) ]

rest_begins : (new : List Run) (a : Run) (more : List Run) → AreRuns (a ∷ more) → ((s : Run) → BeginsBy a s → AllBegin new s) → NextBegins new more
rest_begins new a [] h order = tt
rest_begins new a (b ∷ bs) h order = order b (begins_apart a b h.0 h.1)

pub or_moved : (o a l r : Bool) → ((o || a) || (l || r)) ≡ (o || ((a || l) || r))
or_moved true a l r = refl
or_moved false true l r = refl
or_moved false false l r = refl

-- the first run on the left, which begins no later than that on the right, is added to the output
pub took_left : (out new lefts rights left right : List Run) (a b : Run) (more bs : List Run) → IsJoining out lefts rights left right → lefts ≡ a ∷ more → rights ≡ b ∷ bs → BeginsBy a b → IsPushed out new a
    → IsJoining new more rights left right
took_left out new lefts rights left right a b more bs is l r first pushed =
    let a_runs : AreRuns (a ∷ more) = subst AreRuns l is.left_runs in
    let a_ids : EndInIds (a ∷ more) = subst EndInIds l is.left_ids in
    record {
      out_ids = pushed.ids is.out_ids a_ids.0;
      left_ids = a_ids.1;
      right_ids = is.right_ids;
      out_runs = pushed.runs;
      left_runs = rest_runs a more a_runs;
      right_runs = is.right_runs;
      left_next = rest_begins new a more a_runs pushed.order;
      right_next = subst (NextBegins new) (sym r) (pushed.order b first);
      covered = λ i.
          ap (λ x. x || (is_in_runs i more || is_in_runs i rights)) (pushed.covered i)
          ∙ or_moved (is_in_runs i out) (is_in_run i a) (is_in_runs i more) (is_in_runs i rights)
          ∙ ap (λ xs. is_in_runs i out || (is_in_runs i xs || is_in_runs i rights)) (sym l)
          ∙ is.covered i;
    }

joining_turned : (out lefts rights left right : List Run) → IsJoining out lefts rights left right → IsJoining out rights lefts right left
joining_turned out lefts rights left right is =
    record {
      out_ids = is.out_ids;
      left_ids = is.right_ids;
      right_ids = is.left_ids;
      out_runs = is.out_runs;
      left_runs = is.right_runs;
      right_runs = is.left_runs;
      left_next = is.right_next;
      right_next = is.left_next;
      covered = λ i. ap (λ x. is_in_runs i out || x) (or_comm (is_in_runs i rights) (is_in_runs i lefts)) ∙ is.covered i ∙ or_comm (is_in_runs i left) (is_in_runs i right);
    }

pub took_right : (out new lefts rights left right : List Run) (a b : Run) (more bs : List Run) → IsJoining out lefts rights left right → lefts ≡ a ∷ more → rights ≡ b ∷ bs → BeginsBy b a → IsPushed out new b
    → IsJoining new lefts bs left right
took_right out new lefts rights left right a b more bs is l r first pushed =
    joining_turned new bs lefts right left (took_left out new rights lefts right left b a bs more (joining_turned out lefts rights left right is) r l first pushed)

-- one list is empty, and the rest of the other was added to the output
pub spent_left : (out new lefts rights left right : List Run) → IsJoining out lefts rights left right → length lefts ≡ 0 → ((i : Id) → is_in_runs i new ≡ (is_in_runs i out || is_in_runs i rights))
    → (i : Id) → is_in_runs i new ≡ (is_in_runs i left || is_in_runs i right)
spent_left out new [] rights left right is h all i = all i ∙ is.covered i
spent_left out new (x ∷ xs) rights left right is h all i = absurd (omega arith)

pub spent_right : (out new lefts rights left right : List Run) → IsJoining out lefts rights left right → length rights ≡ 0 → ((i : Id) → is_in_runs i new ≡ (is_in_runs i out || is_in_runs i lefts))
    → (i : Id) → is_in_runs i new ≡ (is_in_runs i left || is_in_runs i right)
spent_right out new lefts rights left right is h all i = spent_left out new rights lefts right left (joining_turned out lefts rights left right is) h all i ∙ or_comm (is_in_runs i right) (is_in_runs i left)

-- ---- which of two runs begins first

pub begins_equal : (r s : Run) → replica_cmp r.replica s.replica ≡ Equal → OnTrue (leb r.low s.low) (BeginsBy r s) × OnFalse (leb r.low s.low) (BeginsBy s r)
begins_equal r s h = from (leb r.low s.low) refl
  where
    same : r.replica ≡ s.replica
    same = bytes_exact r.replica s.replica h

    low_no : (m n : ℕ) → leb m n ≡ false → n ≤ m
    low_no m n e = grind (arith, nat_tests)

    from : (b : Bool) → leb r.low s.low ≡ b → OnTrue b (BeginsBy r s) × OnFalse b (BeginsBy s r)
    from true e = (inr (same, leb-true r.low s.low e), tt)
    from false e = (tt, inr (sym same, low_no r.low s.low e))

pub below_back : (a b : List ℕ) → replica_cmp a b ≡ Greater → IsBelow b a
below_back a b h = nat_list_cmp_total.antisymm b a ∙ ap ordering_reverse h

-- ---- the runs of a list are appended to others

pub record IsPushing (out rest old runs : List Run) : Type 0 where
  pub out_runs : AreRuns out
  pub rest_runs : AreRuns rest
  pub next : NextBegins out rest
  pub out_ids : EndInIds out
  pub rest_ids : EndInIds rest
  pub covered : (i : Id) → (is_in_runs i out || is_in_runs i rest) ≡ (is_in_runs i old || is_in_runs i runs)

-- ---- a run above all others

pub AreRuns-above : (rs : List Run) (m : Run) → AreRuns rs → IsRun m
    → ((i : Id) → is_in_runs i rs ≡ true → IsBelow i.replica m.replica ⊎ ((i.replica ≡ m.replica) × (i.count + 1 < m.low))) → AreRuns (rs ++ m ∷ [])
AreRuns-above [] m h is above = is
AreRuns-above (x ∷ []) m h is above = (h, above (last_of x) (or_left _ _ (last_in x h)), is)
  where
    last_in : (x : Run) → IsRun x → is_in_run (last_of x) x ≡ true
    last_in x is = and_from _ _ (replica_itself x.replica) (and_from _ _ (le-leb x.low x.high is.1) (le-leb x.high x.high (omega arith)))
AreRuns-above (x ∷ y ∷ ys) m h is above = (h.0, h.1, AreRuns-above (y ∷ ys) m h.2 is (λ i k. above i (or_right (is_in_run i x) _ k)))

pub seen_of-push : (rs : List Run) (m : Run) → seen_of (rs ++ m ∷ []) ≡ set.union (seen_of rs) (set.from_list (ids_of_run m))
seen_of-push rs m = set.same_set id_total id_exact _ _ (λ i.
    contains-seen_of (rs ++ m ∷ []) i
    ∙ in_runs-push i rs m
    ∙ (λ k. is_in_runs i rs || one_run i m k)
    ∙ sym (set.contains-union id_total (seen_of rs) (set.from_list (ids_of_run m)) i ∙ (λ k. contains-seen_of rs i k || contains-from_list id_total (ids_of_run m) i k)))
  where
    one_run : (i : Id) (m : Run) → is_in_run i m ≡ list_any (eq_by_cmp id_cmp i) (ids_of_run m)
    one_run i m = sym (from_one i m.replica m.low (m.high + 1 - m.low) ∙ run_end (is_eq (replica_cmp i.replica m.replica)) i.count m.low m.high)
