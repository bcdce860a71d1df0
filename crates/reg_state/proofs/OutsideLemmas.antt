-- The walk that computes the difference of two lists of runs: its steps, and its output.
use Rattle.std.proofs.Common.{◌≡◌, ℕ, ◌+◌, ◌-◌, ◌<◌, ◌≤◌, max, Bool, true, false, not, ◌&&◌, ◌||◌, leb, List, [], ◌∷◌, ◌++◌, length, Option, Some, None, IfSome, IfNone, find, cond, refl, sym, ap, ◌∙◌, subst, inl, inr, ◌⊎◌, arith, eq-or-lt_of_le}
use Rattle.std.proofs.lemmas.Bool.{true≢false, and_from, and_parts, or_cases, or_left, or_right, false_from_ne_true}
use Rattle.std.proofs.lemmas.Bool.Decides.{nat_tests}
use Rattle.std.proofs.Math.Bool.{or_assoc}
use Rattle.std.proofs.Math.Nat.{max-zero}
use Rattle.std.specs.List.{list_any}
use Rattle.std.specs.Ordering.{is_eq, eq_by_cmp}
use Rattle.std.specs.Cmp.{Equal-is, tied_itself}
use Rattle.std.specs.declared.cmp.Ordering.TheVariants.{Less, Equal, Greater}
use Rattle.reg_op.specs.Set as set
use Rattle.reg_op.specs.Ids.{Id, Ids, id_cmp, is_before}
use Rattle.reg_op.specs.Pieces.{first_missing}
use Rattle.reg_op.proofs.OpLemmas.{bytes_exact, id_total, id_exact}
use Rattle.reg_op.proofs.PointLemmas.{lt_or_ge}
use Rattle.reg_op.proofs.SetLemmas.{AllAbove, Climbs, items_climb}
use Rattle.reg_state.specs.declared.run.Run.{Run}
use Rattle.reg_state.specs.declared.seen_outside.RunWalk.{RunWalk}
use Rattle.reg_state.specs.Runs.{replica_cmp, IsBelow, first_of, seen_of, is_in_run, is_in_runs, IsBeyond, IsRun, AreRuns, EndInIds}
use Rattle.reg_state.specs.Walks.{from_count, runs_from, is_outside, is_left, lefts_of, spans_of, IsLeastOf, IsTaken, IsWalk}
use Rattle.reg_state.proofs.RunLemmas.{below_chain, not_below_same, below_back, first_run, rest_runs, AreRuns-above, EndInIds-push, in_runs-push, contains-seen_of}
use Rattle.reg_state.proofs.SearchLemmas.{IsPast, IsWithin, ends, in_run, past_of, past_ends, within}
use Rattle.reg_state.proofs.CanonLemmas.{IsFrom, far_from, from_first}

-- ---- which of two runs ends before the other begins

not_past : (r : Run) (i : Id) → ends i r ≡ false → IsBelow i.replica r.replica ⊎ ((r.replica ≡ i.replica) × (i.count ≤ r.high))
not_past r i h =
    elim (replica_cmp r.replica i.replica) as (λ o. replica_cmp r.replica i.replica ≡ o → IsBelow i.replica r.replica ⊎ ((r.replica ≡ i.replica) × (i.count ≤ r.high))) [
      | Less ↦ λ e. absurd (true≢false (sym (past_ends i r (inl e)) ∙ h))
      | Equal ↦ λ e. elim (lt_or_ge r.high i.count) [
        | inl l ↦ absurd (true≢false (sym (past_ends i r (inr (bytes_exact r.replica i.replica e, l))) ∙ h))
        | inr g ↦ inr (bytes_exact r.replica i.replica e, g)
      ]
      | Greater ↦ λ e. inl (below_back r.replica i.replica e)
    ] refl

-- neither ends before the other begins
pub record AreMeeting (r s : Run) : Type 0 where
  pub replica : s.replica ≡ r.replica
  pub reaches : r.low ≤ s.high
  pub begins : s.low ≤ r.high

pub meeting : (r s : Run) → ends (first_of r) s ≡ false → ends (first_of s) r ≡ false → AreMeeting r s
meeting r s h k =
    elim (not_past s (first_of r) h) [
      | inl a ↦ absurd (true≢false (sym (past_ends (first_of s) r (inl a)) ∙ k))
      | inr b ↦ elim (not_past r (first_of s) k) [
        | inl c ↦ absurd (not_below_same s.replica r.replica b.0 c)
        | inr d ↦ record { replica = b.0; reaches = b.1; begins = d.1 }
      ]
    ]

past_from : (o r : Run) (i : Id) → IsPast o (first_of r) → IsFrom r i → IsPast o i
past_from o r i (inl a) (inl b) = inl (below_chain o.replica r.replica i.replica a b)
past_from o r i (inl a) (inr b) = inl (subst (λ q. IsBelow o.replica q) b.0 a)
past_from o r i (inr a) (inl b) = inl (subst (λ q. IsBelow q i.replica) (sym a.0) b)
past_from o r i (inr a) (inr b) = inr (a.0 ∙ b.0, omega (arith, a.1, b.1))

past_not_in : (o : Run) (i : Id) → IsPast o i → is_in_run i o ≡ false
past_not_in o i p = false_from_ne_true _ (λ e. refuted (within i o e) p)
  where
    refuted : IsWithin i o → IsPast o i → ⊥
    refuted w (inl a) = not_below_same o.replica i.replica (sym w.replica) a
    refuted w (inr b) = omega (arith, w.high, b.1)

-- no id of r is in runs that begin after the end of r
clear : (r s : Run) (ss : List Run) → AreRuns (s ∷ ss) → IsPast r (first_of s) → (i : Id) → is_in_run i r ≡ true → is_in_runs i (s ∷ ss) ≡ false
clear r s ss are p i h = false_from_ne_true _ (λ e. true≢false (sym h ∙ past_not_in r i (past_from r s i p (from_first s ss i are e))))

-- ---- identities of Booleans, for each step

drop_right : (x o t : Bool) → (x ≡ true → o ≡ false) → (x && not t) ≡ (x && not (o || t))
drop_right true o t h = λ k. not (sym (h refl) k || t)
drop_right false o t h = refl

take_left : (a b r : Bool) → (a ≡ true → r ≡ false) → ((a || b) && not r) ≡ (a || (b && not r))
take_left true b r h = ap not (h refl)
take_left false b r h = refl

take_front : (a f a' b r : Bool) → a ≡ (f || a') → (f ≡ true → r ≡ false) → ((a || b) && not r) ≡ (f || ((a' || b) && not r))
take_front a true a' b r e h = (λ k. (e k || b) && not r) ∙ ap not (h refl)
take_front a false a' b r e h = λ k. (e k || b) && not r

cover : (a a' b o t : Bool) → (a' ≡ true → a ≡ true) → (a ≡ true → a' ≡ false → o ≡ true) → (a' ≡ true → o ≡ false) → (b ≡ true → o ≡ false) → ((a' || b) && not t) ≡ ((a || b) && not (o || t))
cover a true b o t p q r s = λ k. (sym (p refl) k || b) && not (sym (r refl) k || t)
cover true false true o t p q r s = λ k. not (sym (s refl) k || t)
cover false false true o t p q r s = λ k. not (sym (s refl) k || t)
cover true false false o t p q r s = λ k. not (sym (q refl refl) k || t)
cover false false false o t p q r s = refl

drop_left : (a b o t : Bool) → (a ≡ true → o ≡ true) → (b && not (o || t)) ≡ ((a || b) && not (o || t))
drop_left true true o t h = refl
drop_left true false o t h = λ k. not (sym (h refl) k || t)
drop_left false b o t h = refl

-- ---- runs from a count on

pub runs_from_0 : (rs : List Run) → runs_from 0 rs ≡ rs
runs_from_0 [] = refl
runs_from_0 (r ∷ rs) = λ k. record { replica = r.replica; low = max-zero r.low k; high = r.high } ∷ rs

-- the first of a list of runs may begin at another count
later_runs : (r s : Run) (rs : List Run) → AreRuns (r ∷ rs) → s.replica ≡ r.replica → s.high ≡ r.high → IsRun s → AreRuns (s ∷ rs)
later_runs r s [] h e f is = is
later_runs r s (x ∷ xs) h e f is =
    (is, elim h.1 [ inl a ↦ inl (subst (λ q. IsBelow q x.replica) (sym e) a) | inr b ↦ inr (e ∙ b.0, omega (arith, f, b.1)) ], h.2)

-- ---- during the walk

pub record IsOn (low : ℕ) (lefts rights : List Run) (w : RunWalk) : Type 0 where
  pub left_runs : AreRuns (runs_from low lefts)
  pub right_runs : AreRuns rights
  pub ids : EndInIds lefts
  pub same : (i : Id) → is_outside (runs_from low lefts) rights i ≡ is_left w i
  pub spans : spans_of (runs_from low lefts) ≤ spans_of (lefts_of w)

module _ (low : ℕ) (first : Run) (others : List Run) (w : RunWalk) where
  abbrev run : Run
  run = from_count low first

  module _ (rights : List Run) (on : IsOn low (first ∷ others) rights w) where
    is_run : IsRun run
    is_run = first_run run others on.left_runs

    took_whole : (new : RunWalk) → new.low ≡ 0 → new.lefts.now ≡ others → new.rights.now ≡ rights → ((i : Id) → is_in_run i run ≡ true → is_in_runs i rights ≡ false) → IsTaken w run new
    took_whole new l m r far =
        let now : lefts_of new ≡ others = (λ k. runs_from (l k) (m k)) ∙ runs_from_0 others in
        record {
          walk = record { lefts = subst AreRuns (sym now) (rest_runs run others on.left_runs); rights = subst AreRuns (sym r) on.right_runs; ids = subst EndInIds (sym m) on.ids.1 };
          is_run = is_run;
          id = on.ids.0;
          split = λ i. sym (on.same i) ∙ take_left (is_in_run i run) (is_in_runs i others) (is_in_runs i rights) (far i)
              ∙ (λ k. is_in_run i run || is_outside (sym now k) (sym r k) i);
          beyond = λ i h. far_from run others i on.left_runs (and_parts _ _ ((λ k. is_outside (sym now k) new.rights.now i) ∙ h)).0;
          smaller = let fewer : spans_of (lefts_of new) ≡ spans_of others = ap spans_of now in let is = is_run in omega (arith, fewer, is.1, on.spans);
        }

  module _ (other : Run) (rest : List Run) (on : IsOn low (first ∷ others) (other ∷ rest) w) where
    meets_is : IsRun run
    meets_is = first_run run others on.left_runs

    other_is : IsRun other
    other_is = first_run other rest on.right_runs

    passed_right : ends (first_of run) other ≡ true → IsOn low (first ∷ others) rest w
    passed_right h = record {
      left_runs = on.left_runs;
      right_runs = rest_runs other rest on.right_runs;
      ids = on.ids;
      same = λ i. drop_right (is_in_runs i (run ∷ others)) (is_in_run i other) (is_in_runs i rest)
          (λ x. past_not_in other i (past_from other run i (past_of (first_of run) other h) (from_first run others i on.left_runs x)))
          ∙ on.same i;
      spans = on.spans;
    }

    module _ (m : AreMeeting run other) where
      -- the ids of `run` from a count within it
      module _ (count : ℕ) (above : run.low ≤ count) (within_it : count ≤ run.high) where
        abbrev back : Run
        back = from_count count first

        back_low : back.low ≡ count
        back_low = from first.low low count above
          where
            from : (f l c : ℕ) → max f l ≤ c → max f c ≡ c
            from f l c h = grind arith

        back_is : IsRun back
        back_is = let is = meets_is in (omega (arith, back_low, is.0), omega (arith, back_low))

        back_runs : AreRuns (back ∷ others)
        back_runs = later_runs run back others on.left_runs refl refl back_is

      abbrev front : ℕ → Run
      front high = record { replica = run.replica; low = run.low; high = high }

      took_front : run.low < other.low → (new : RunWalk) → new.low ≡ other.low → new.lefts.now ≡ first ∷ others → new.rights.now ≡ other ∷ rest
          → IsTaken w (front (other.low - 1)) new
      took_front under new l n r =
          let above : run.low ≤ other.low = omega arith in
          let it : Run = front (other.low - 1) in
          let now : lefts_of new ≡ back other.low above m.begins ∷ others = λ k. runs_from (l k) (n k) in
          let past : IsPast it (first_of other) = inr (sym m.replica, omega arith) in
          let is = meets_is in
          let low_is = back_low other.low above m.begins in
          record {
            walk = record { lefts = subst AreRuns (sym now) (back_runs other.low above m.begins); rights = subst AreRuns (sym r) on.right_runs; ids = subst EndInIds (sym n) on.ids };
            is_run = (is.0, omega arith);
            id = record { long = on.ids.0.long; bytes = on.ids.0.bytes; positive = omega (arith, is.0); fits = let f = on.ids.0.fits in let b = m.begins in omega arith };
            split = λ i. sym (on.same i)
                ∙ take_front (is_in_run i run) (is_in_run i it) (is_in_run i (back other.low above m.begins)) (is_in_runs i others) (is_in_runs i (other ∷ rest))
                (two_parts (is_eq (replica_cmp i.replica first.replica)) i.count run.low run.high other.low (back other.low above m.begins).low under m.begins low_is)
                (clear it other rest on.right_runs past i)
                ∙ (λ k. is_in_run i it || is_outside (sym now k) (sym r k) i);
            beyond = λ i h.
                let out : is_outside (back other.low above m.begins ∷ others) (other ∷ rest) i ≡ true = (λ k. is_outside (sym now k) (sym r k) i) ∙ h in
                beyond_it other.low above i (and_parts _ _ out).0 (and_parts _ _ out).1;
            smaller = let fewer : spans_of (lefts_of new) ≡ spans_of (back other.low above m.begins ∷ others) = ap spans_of now in let s = on.spans in let b = m.begins in omega (arith, fewer, low_is);
          }
        where
          two_parts : (b : Bool) (y rl rh ol l : ℕ) → rl < ol → ol ≤ rh → l ≡ ol → (b && (leb rl y && leb y rh)) ≡ ((b && (leb rl y && leb y (ol - 1))) || (b && (leb l y && leb y rh)))
          two_parts true y rl rh ol l p q e = at_true y rl rh ol l p q e
            where
              at_true : (y rl rh ol l : ℕ) → rl < ol → ol ≤ rh → l ≡ ol → (leb rl y && leb y rh) ≡ ((leb rl y && leb y (ol - 1)) || (leb l y && leb y rh))
              at_true y rl rh ol l p q e = grind (arith, nat_tests)
          two_parts false y rl rh ol l p q e = refl

          beyond_it : (c : ℕ) (above : run.low ≤ other.low) (i : Id) → is_in_runs i (back other.low above m.begins ∷ others) ≡ true → not (is_in_runs i (other ∷ rest)) ≡ true → IsBeyond (front (other.low - 1)) i
          beyond_it c above i h k =
              let low_is = back_low other.low above m.begins in
              elim (or_cases (is_in_run i (back other.low above m.begins)) (is_in_runs i others) h) [
                | inl e ↦
                    let v = within i (back other.low above m.begins) e in
                    elim (eq-or-lt_of_le {n = other.low} {m = i.count} (omega (arith, low_is, v.low))) [
                      | inl same ↦ absurd (true≢false (sym k ∙ ap not (or_left _ _ (in_run i other (record { replica = v.replica ∙ sym m.replica; low = omega (arith, same); high = let o = other_is in omega (arith, same, o.1) })))))
                      | inr later ↦ inr (sym v.replica, omega (arith, later))
                    ]
                | inr e ↦ elim (far_from run others i on.left_runs e) [ inl a ↦ inl a | inr b ↦ inr (b.0, let g = m.begins in omega (arith, b.1)) ]
              ]

      covered_front : other.low ≤ run.low → other.high < run.high → IsOn (other.high + 1) (first ∷ others) rest w
      covered_front from upto =
          let above : run.low ≤ other.high + 1 = let g = m.reaches in omega arith in
          let within_it : other.high + 1 ≤ run.high = omega arith in
          let low_is = back_low (other.high + 1) above within_it in
          let it : Run = back (other.high + 1) above within_it in
          record {
            left_runs = back_runs (other.high + 1) above within_it;
            right_runs = rest_runs other rest on.right_runs;
            ids = on.ids;
            same = λ i. cover (is_in_run i run) (is_in_run i it) (is_in_runs i others) (is_in_run i other) (is_in_runs i rest)
                (λ e. let v = within i it e in in_run i run (record { replica = v.replica; low = let g = v.low in omega (arith, low_is, above); high = v.high }))
                (λ e f. let v = within i run e in in_run i other (record { replica = v.replica ∙ sym m.replica; low = let g = v.low in omega (arith, from); high = not_later i it v low_is refl refl f }))
                (λ e. past_not_in other i (let v = within i it e in inr (m.replica ∙ sym v.replica, let g = v.low in omega (arith, low_is))))
                (λ e. past_not_in other i (elim (far_from run others i on.left_runs e) [ inl a ↦ inl (subst (λ q. IsBelow q i.replica) (sym m.replica) a) | inr b ↦ inr (m.replica ∙ b.0, omega (arith, b.1, upto)) ]))
                ∙ on.same i;
            spans = let s = on.spans in let is = meets_is in omega (arith, low_is, above);
          }
        where
          not_later : (i : Id) (it : Run) → IsWithin i run → it.low ≡ other.high + 1 → it.replica ≡ run.replica → it.high ≡ run.high → is_in_run i it ≡ false → i.count ≤ other.high
          not_later i it v e r t f = elim (lt_or_ge other.high i.count) [
            | inr g ↦ g
            | inl l ↦ absurd (true≢false (sym (in_run i it (record { replica = v.replica ∙ sym r; low = omega (arith, e, l); high = let g = v.high in omega (arith, t) })) ∙ f))
          ]

      covered_whole : other.low ≤ run.low → run.high ≤ other.high → IsOn 0 others (other ∷ rest) w
      covered_whole from upto =
          let now = runs_from_0 others in
          record {
            left_runs = subst AreRuns (sym now) (rest_runs run others on.left_runs);
            right_runs = on.right_runs;
            ids = on.ids.1;
            same = λ i. (λ k. is_outside (now k) (other ∷ rest) i)
                ∙ drop_left (is_in_run i run) (is_in_runs i others) (is_in_run i other) (is_in_runs i rest)
                (λ e. let v = within i run e in in_run i other (record { replica = v.replica ∙ sym m.replica; low = let g = v.low in omega (arith, from); high = let g = v.high in omega (arith, upto) }))
                ∙ on.same i;
            spans = let fewer : spans_of (runs_from 0 others) ≡ spans_of others = ap spans_of now in let s = on.spans in omega (arith, fewer);
          }

-- ---- the steps, as the code takes them

pub none_first : (xs : List Run) (x : Run) (ys : List Run) → xs ≡ x ∷ ys → length xs ≡ 0 → ⊥
none_first xs x ys e h = let f : length xs ≡ length (x ∷ ys) = ap length e in omega (arith, f)

module _ (low : ℕ) (lefts rights : List Run) (w : RunWalk) (on : IsOn low lefts rights w) (first : Run) (others : List Run) (l : lefts ≡ first ∷ others) (cut : Run) (e : cut ≡ from_count low first) where
  on_left : IsOn low (first ∷ others) rights w
  on_left = subst (λ ls. IsOn low ls rights w) l on

  pub take_last : length rights ≡ 0 → (new : RunWalk) → new.low ≡ 0 → new.lefts.now ≡ others → new.rights.now ≡ rights → IsTaken w cut new
  take_last none new a b c =
      subst (λ r. IsTaken w r new) (sym e) (took_whole low first others w rights on_left new a b c (λ i h. no_runs rights none i))
    where
      no_runs : (rs : List Run) → length rs ≡ 0 → (i : Id) → is_in_runs i rs ≡ false
      no_runs [] h i = refl
      no_runs (r ∷ rs) h i = absurd (omega arith)

  module _ (other : Run) (rest : List Run) (r : rights ≡ other ∷ rest) where
    on_both : IsOn low (first ∷ others) (other ∷ rest) w
    on_both = subst (λ rs. IsOn low (first ∷ others) rs w) r on_left

    pub take_before : ends (first_of other) cut ≡ true → (new : RunWalk) → new.low ≡ 0 → new.lefts.now ≡ others → new.rights.now ≡ rights → IsTaken w cut new
    take_before h new a b c =
        let past : IsPast (from_count low first) (first_of other) = past_of (first_of other) (from_count low first) (ap (ends (first_of other)) (sym e) ∙ h) in
        subst (λ x. IsTaken w x new) (sym e)
        (took_whole low first others w (other ∷ rest) on_both new a b (c ∙ r) (clear (from_count low first) other rest on_both.right_runs past))

    pub pass_right : ends (first_of cut) other ≡ true → IsOn low lefts rest w
    pass_right h = subst (λ ls. IsOn low ls rest w) (sym l) (passed_right low first others w other rest on_both (ap (λ x. ends (first_of x) other) (sym e) ∙ h))

    module _ (apart : ends (first_of cut) other ≡ false) (behind : ends (first_of other) cut ≡ false) where
      meet : AreMeeting (from_count low first) other
      meet = meeting (from_count low first) other (ap (λ x. ends (first_of x) other) (sym e) ∙ apart) (ap (ends (first_of other)) (sym e) ∙ behind)

      pub take_front_of : cut.low < other.low → (new : RunWalk) → new.low ≡ other.low → new.lefts.now ≡ lefts → new.rights.now ≡ rights
          → IsTaken w (record { replica = cut.replica; low = cut.low; high = other.low - 1 }) new
      take_front_of h new a b c =
          subst (λ (x : Run). IsTaken w (record { replica = x.replica; low = x.low; high = other.low - 1 }) new) (sym e)
          (took_front low first others w other rest on_both meet (subst (λ (x : Run). x.low < other.low) e h) new a (b ∙ l) (c ∙ r))

      pub pass_front : other.low ≤ cut.low → other.high < cut.high → IsOn (other.high + 1) lefts rest w
      pass_front h k =
          subst (λ ls. IsOn (other.high + 1) ls rest w) (sym l)
          (covered_front low first others w other rest on_both meet (subst (λ (x : Run). other.low ≤ x.low) e h) (subst (λ (x : Run). other.high < x.high) e k))

      pub pass_whole : other.low ≤ cut.low → cut.high ≤ other.high → IsOn 0 others rights w
      pass_whole h k =
          subst (λ rs. IsOn 0 others rs w) (sym r)
          (covered_whole low first others w other rest on_both meet (subst (λ (x : Run). other.low ≤ x.low) e h) (subst (λ (x : Run). x.high ≤ other.high) e k))

-- ---- the output of the walk

-- each id that the walk has not yet passed is after each id of the output, and not adjacent to it
abbrev AllBeyond : List Run → RunWalk → Type 0
AllBeyond out w = (i j : Id) → is_in_runs i out ≡ true → is_left w j ≡ true → IsBelow i.replica j.replica ⊎ ((i.replica ≡ j.replica) × (i.count + 1 < j.count))

pub record IsGoing (out : List Run) (w : RunWalk) (left right : List Run) : Type 0 where
  pub walk : IsWalk w
  pub runs : AreRuns out
  pub ids : EndInIds out
  pub beyond : AllBeyond out w
  pub outside : (i : Id) → (is_in_runs i out || is_left w i) ≡ is_outside left right i

pub went_on : (out : List Run) (w new : RunWalk) (left right : List Run) (run : Run) → IsGoing out w left right → IsTaken w run new → IsGoing (out ++ run ∷ []) new left right
went_on out w new left right run is taken =
    record {
      walk = taken.walk;
      runs = AreRuns-above out run is.runs taken.is_run (λ i h. is.beyond i (first_of run) h (taken.split (first_of run) ∙ or_left _ _ (first_in run taken.is_run)));
      ids = EndInIds-push out run is.ids taken.id;
      beyond = λ i j h k.
          elim (or_cases (is_in_runs i out) (is_in_run i run) (sym (in_runs-push i out run) ∙ h)) [
            | inl e ↦ is.beyond i j e (taken.split j ∙ or_right (is_in_run j run) (is_left new j) k)
            | inr e ↦ further i j (within i run e) (taken.beyond j k)
          ];
      outside = λ i. (λ k. in_runs-push i out run k || is_left new i)
          ∙ or_assoc (is_in_runs i out) (is_in_run i run) (is_left new i)
          ∙ (λ k. is_in_runs i out || sym (taken.split i) k)
          ∙ is.outside i;
    }
  where
    first_in : (r : Run) → IsRun r → is_in_run (first_of r) r ≡ true
    first_in r is = in_run (first_of r) r (record { replica = refl; low = omega arith; high = is.1 })

    further : (i j : Id) → IsWithin i run → IsBeyond run j → IsBelow i.replica j.replica ⊎ ((i.replica ≡ j.replica) × (i.count + 1 < j.count))
    further i j v (inl a) = inl (subst (λ q. IsBelow q j.replica) (sym v.replica) a)
    further i j v (inr b) = inr (v.replica ∙ b.0, let g = v.high in omega (arith, b.1))

-- ---- the least id

pub least_taken : (w new : RunWalk) (r : Run) (t : Id → Bool) → ((i : Id) → is_left w i ≡ t i) → IsTaken w r new → IsLeastOf t (first_of r)
least_taken w new r t same taken =
    record {
      passes = sym (same (first_of r)) ∙ taken.split (first_of r) ∙ or_left _ _ (in_run (first_of r) r (record { replica = refl; low = omega arith; high = taken.is_run.1 }));
      least = λ i h. false_from_ne_true _ (λ b.
          sooner i (past_of (first_of r) (record { replica = i.replica; low = 0; high = i.count }) b)
          (or_cases (is_in_run i r) (is_left new i) (sym (taken.split i) ∙ same i ∙ h)));
    }
  where
    sooner : (i : Id) → IsBelow i.replica r.replica ⊎ ((i.replica ≡ r.replica) × (i.count < r.low)) → (is_in_run i r ≡ true) ⊎ (is_left new i ≡ true) → ⊥
    sooner i (inl a) (inl b) = not_below_same i.replica r.replica (within i r b).replica a
    sooner i (inr a) (inl b) = let v = within i r b in omega (arith, v.low, a.1)
    sooner i a (inr b) = behind i a (taken.beyond i b)
      where
        behind : (i : Id) → IsBelow i.replica r.replica ⊎ ((i.replica ≡ r.replica) × (i.count < r.low)) → IsBeyond r i → ⊥
        behind i (inl a) (inl b) = not_below_same i.replica i.replica refl (below_chain i.replica r.replica i.replica a b)
        behind i (inl a) (inr b) = not_below_same i.replica r.replica (sym b.0) a
        behind i (inr a) (inl b) = not_below_same r.replica i.replica (sym a.0) b
        behind i (inr a) (inr b) = let is = taken.is_run in omega (arith, a.1, b.1, is.1)

pub if_some_is : (P : Id → Type 0) (x : Option Id) (j : Id) → IfSome x (λ i. i ≡ j) → P j → IfSome x P
if_some_is P None j e p = tt
if_some_is P (Some i) j e p = subst P (sym e) p

-- in an ascending list, the least id that passes is the first one that passes
first_found : (p : Id → Bool) (j : Id) (xs : List Id) → Climbs id_cmp xs → list_any (eq_by_cmp id_cmp j) xs ≡ true → p j ≡ true
    → ((i : Id) → list_any (eq_by_cmp id_cmp i) xs ≡ true → p i ≡ true → is_before i j ≡ false) → Some j ≡ find p xs
first_found p j [] up there passes least = absurd (true≢false (sym there))
first_found p j (x ∷ xs) up there passes least =
    elim (p x) as (λ b. p x ≡ b → Some j ≡ cond b (Some x) (find p xs)) [
      | true ↦ λ e. ap Some (elim (or_cases (eq_by_cmp id_cmp j x) (list_any (eq_by_cmp id_cmp j) xs) there) [
        | inl same ↦ id_exact j x ((Equal-is (id_cmp j x)).0 same)
        | inr later ↦ absurd (true≢false (sym (above xs up.0 later) ∙ least x (or_left _ _ (ap is_eq (tied_itself id_total x))) e))
      ])
      | false ↦ λ e. elim (or_cases (eq_by_cmp id_cmp j x) (list_any (eq_by_cmp id_cmp j) xs) there) [
        | inl same ↦ absurd (true≢false (sym passes ∙ ap p (id_exact j x ((Equal-is (id_cmp j x)).0 same)) ∙ e))
        | inr later ↦ first_found p j xs up.1 later passes (λ i h. least i (or_right (eq_by_cmp id_cmp i x) _ h))
      ]
    ] refl
  where
    above : (ys : List Id) → AllAbove id_cmp x ys → list_any (eq_by_cmp id_cmp j) ys ≡ true → is_before x j ≡ true
    above [] h k = absurd (true≢false (sym k))
    above (y ∷ ys) h k = elim (or_cases (eq_by_cmp id_cmp j y) (list_any (eq_by_cmp id_cmp j) ys) k) [
      | inl same ↦ subst (λ z. is_before x z ≡ true) (sym (id_exact j y ((Equal-is (id_cmp j y)).0 same))) h.0
      | inr later ↦ above ys h.1 later
    ]

none_found : (p : Id → Bool) (xs : List Id) → ((i : Id) → list_any (eq_by_cmp id_cmp i) xs ≡ true → p i ≡ false) → None ≡ find p xs
none_found p [] h = refl
none_found p (x ∷ xs) h =
    none_found p xs (λ i k. h i (or_right (eq_by_cmp id_cmp i x) _ k))
    ∙ (λ k. cond (sym (h x (or_left _ _ (ap is_eq (tied_itself id_total x)))) k) (Some x) (find p xs))

pub missing_is : (x : Option Id) (s t : Ids) (f : Id → Bool) → ((i : Id) → f i ≡ (set.contains s i && not (set.contains t i)))
    → IfNone x ((i : Id) → f i ≡ false) → IfSome x (λ j. IsLeastOf f j) → x ≡ first_missing s t
missing_is None s t f same none some = none_found (λ i. not (set.contains t i)) (set.items s) (λ i h.
    (λ k. sym (set.contains-items s i ∙ h) k && not (set.contains t i)) ∙ sym (same i) ∙ none i)
missing_is (Some j) s t f same none some =
    let p = and_parts (set.contains s j) (not (set.contains t j)) (sym (same j) ∙ some.passes) in
    first_found (λ i. not (set.contains t i)) j (set.items s) (items_climb id_cmp s) (sym (set.contains-items s j) ∙ p.0) p.1
    (λ i h k. some.least i (same i ∙ and_from _ _ (set.contains-items s i ∙ h) k))

-- the difference of two lists of runs has the ids of the difference of their sets
pub is_difference : (ls rs : List Run) (i : Id) → is_outside ls rs i ≡ (set.contains (seen_of ls) i && not (set.contains (seen_of rs) i))
is_difference ls rs i = λ k. sym (contains-seen_of ls i) k && not (sym (contains-seen_of rs i) k)

pub seen_of-outside : (out ls rs : List Run) → ((i : Id) → is_in_runs i out ≡ is_outside ls rs i) → seen_of out ≡ set.difference (seen_of ls) (seen_of rs)
seen_of-outside out ls rs same = set.same_set id_total id_exact _ _ (λ i.
    contains-seen_of out i ∙ same i ∙ is_difference ls rs i ∙ sym (set.contains-difference id_total (seen_of ls) (seen_of rs) i))
