-- Ranges that are read in sequence, and the ids that they add to a set.
use Rattle.std.proofs.Common.{◌≡◌, ℕ, ◌+◌, ◌<◌, ◌≤◌, true, List, [], ◌∷◌, ◌++◌, map, Option, Some, None, Ok, refl, sym, ap, subst, ◌∙◌, append_assoc, arith, inl, inr}
use Rattle.std.proofs.lemmas.Bool.{or_cases, true≢false}
use Rattle.std.proofs.lemmas.List.{append-nil, length_push, map-append}
use mathlib.Core.Bool.{or-false}
use Rattle.reg_op.specs.Set as set
use Rattle.reg_op.specs.Ids.{Id, Ids, id_cmp}
use Rattle.reg_op.proofs.OpLemmas.{id_total}
use Rattle.reg_op.proofs.SetLemmas.{less}
use Rattle.reg_state.specs.declared.run.Run.{Run}
use Rattle.reg_state.specs.Runs.{IsBelow, ids_of_run, is_in_run, seen_of, IsAbove}
use Rattle.reg_state.proofs.RunLemmas.{below_chain, contains-seen_of, seen_of-push}
use Rattle.reg_state.proofs.SearchLemmas.{within}
use Rattle.reg_file.specs.declared.span.Span.{Span}
use Rattle.reg_file.specs.Layout.{Group, run_at, runs_of}
use Rattle.reg_file.specs.Fields.{span_at, is_above, group_at}
use Rattle.reg_file.specs.Reading.{span, floor_after, group, replica_after}
use Rattle.reg_file.specs.Steps.{with_runs, IsUnder, IsUpTo, AddsSpans, AddsGroup, ReadsGroups, IsAddingSpans, IsAddingGroups}
use Rattle.reg_file.proofs.FieldLemmas.{span_tested}
use Rattle.reg_file.proofs.Sequences.{each-push, state-push}

-- ---- the ids of runs are added to a set

pub with_runs-append : (s : Ids) (xs ys : List Run) → with_runs s (xs ++ ys) ≡ with_runs (with_runs s xs) ys
with_runs-append s [] ys = refl
with_runs-append s (x ∷ xs) ys = with_runs-append (set.union s (set.from_list (ids_of_run x))) xs ys

pub runs_of-push : (gs : List Group) (g : Group) → runs_of (gs ++ g ∷ []) ≡ runs_of gs ++ map (run_at g.replica) g.spans
runs_of-push [] g = append-nil (map (run_at g.replica) g.spans)
runs_of-push (x ∷ gs) g = ap (λ rs. map (run_at x.replica) x.spans ++ rs) (runs_of-push gs g) ∙ sym (append_assoc (map (run_at x.replica) x.spans) (runs_of gs) (map (run_at g.replica) g.spans))

with_runs-seen : (xs rs : List Run) → with_runs (seen_of xs) rs ≡ seen_of (xs ++ rs)
with_runs-seen xs [] = ap seen_of (sym (append-nil xs))
with_runs-seen xs (r ∷ rs) = ap (λ s. with_runs s rs) (sym (seen_of-push xs r)) ∙ with_runs-seen (xs ++ r ∷ []) rs ∙ ap seen_of (append_assoc xs (r ∷ []) rs)

pub with_runs-empty : (rs : List Run) → with_runs set.empty rs ≡ seen_of rs
with_runs-empty rs = with_runs-seen [] rs

pub contains_run : (r : Run) (i : Id) → set.contains (set.from_list {R = id_cmp} (ids_of_run r)) i ≡ is_in_run i r
contains_run r i = ap (λ l. set.contains (set.from_list {R = id_cmp} l) i) (sym (append-nil (ids_of_run r))) ∙ contains-seen_of (r ∷ []) i ∙ or-false (is_in_run i r)

-- ---- ranges of a replica

pub above_run : (s : Ids) (r : Run) (floor : ℕ) → IsUnder s r.replica floor → floor ≤ r.low → IsAbove s r
above_run s r floor under low i h = elim (under i h) [ inl a ↦ inl a | inr b ↦ inr (b.0, (let k : i.count + 1 < floor = b.1 in omega arith)) ]

under_more : (now : Ids) (r : Run) (floor : ℕ) → IsUnder now r.replica floor → floor ≤ r.low → r.low ≤ r.high → IsUnder (set.union now (set.from_list (ids_of_run r))) r.replica (r.high + 2)
under_more now r floor under low high i h =
    elim (or_cases (set.contains now i) (set.contains (set.from_list (ids_of_run r)) i) (sym (set.contains-union id_total now (set.from_list (ids_of_run r)) i) ∙ h)) [
      | inl a ↦ elim (under i a) [ inl b ↦ inl b | inr b ↦ inr (b.0, (let k : i.count + 1 < floor = b.1 in omega arith)) ]
      | inr a ↦ let w = within i r (sym (contains_run r i) ∙ a) in inr (w.replica, (let k : i.count ≤ r.high = w.high in omega arith))
    ]

pub step_spans : (basis old now new : Ids) (replica bytes rest : List ℕ) (floor n : ℕ) (s : Span) (after : List ℕ) → IsAddingSpans basis old now replica bytes rest floor n
    → span_at basis replica floor rest ≡ Ok (s, after) → new ≡ set.union now (set.from_list (ids_of_run (run_at replica s))) → IsAddingSpans basis old new replica bytes after (s.high + 2) (n + 1)
step_spans basis old now new replica bytes rest floor n s after i e added =
    let o = span_tested basis replica floor rest s after e in
    let run : Run = run_at replica s in
    record {
      all = i.all ++ s ∷ [];
      reads = each-push (span basis replica) floor_after 1 bytes i.all rest s after i.reads (subst (λ f. span_at basis replica f rest ≡ Ok (s, after)) i.floor_is e);
      floor_is = sym (state-push (span basis replica) floor_after 1 i.all s);
      adds = added ∙ ap (λ t. set.union t (set.from_list (ids_of_run run))) i.adds ∙ sym (ap (with_runs old) (map-append (run_at replica) i.all (s ∷ [])) ∙ with_runs-append old (map (run_at replica) i.all) (run ∷ []));
      counted = length_push i.all s ∙ ap (λ k. k + 1) i.counted;
      under = subst (λ t. IsUnder t replica (s.high + 2)) (sym added) (under_more now run floor i.under o.above o.ordered);
      positive = omega arith;
    }

-- ---- replicas

pub under_first : (s : Ids) (last : Option (List ℕ)) (replica : List ℕ) → IsUpTo s last → is_above last replica ≡ true → IsUnder s replica 1
under_first s None replica up above i h = absurd (up i h)
under_first s (Some last) replica up above i h =
    let below : IsBelow last replica = less _ above in
    inl (elim (up i h) [ inl a ↦ below_chain i.replica last replica a below | inr b ↦ subst (λ q. IsBelow q replica) (sym b) below ])

pub start_groups : (basis : Ids) (bytes : List ℕ) → IsAddingGroups basis set.empty bytes bytes None 0
start_groups basis bytes = record { all = []; reads = refl; last_is = refl; adds = refl; counted = refl; up_to = λ i h. true≢false (sym h ∙ set.contains-empty _ i) }

pub step_groups : (basis now new : Ids) (bytes rest : List ℕ) (last : Option (List ℕ)) (n : ℕ) (replica after : List ℕ) → IsAddingGroups basis now bytes rest last n
    → AddsGroup basis now new last rest replica after → IsAddingGroups basis new bytes after (Some replica) (n + 1)
step_groups basis now new bytes rest last n replica after i a = record {
  all = i.all ++ a.one ∷ [];
  reads = each-push (group basis) replica_after None bytes i.all rest a.one after i.reads (subst (λ l. (group basis l).Reads rest a.one after) i.last_is a.reads);
  last_is = ap Some a.of ∙ sym (state-push (group basis) replica_after None i.all a.one);
  adds = a.adds ∙ ap (λ t. with_runs t (map (run_at a.one.replica) a.one.spans)) i.adds
      ∙ sym (ap (with_runs set.empty) (runs_of-push i.all a.one) ∙ with_runs-append set.empty (runs_of i.all) (map (run_at a.one.replica) a.one.spans));
  counted = length_push i.all a.one ∙ ap (λ k. k + 1) i.counted;
  up_to = a.up_to;
}

pub end_groups : (basis now : Ids) (bytes rest : List ℕ) (last : Option (List ℕ)) (n : ℕ) → IsAddingGroups basis now bytes rest last n → ReadsGroups basis n bytes now rest
end_groups basis now bytes rest last n i = record { all = i.all; reads = (i.reads, i.counted); ids = i.adds ∙ with_runs-empty (runs_of i.all) }

pub group_added : (basis old new : Ids) (last : Option (List ℕ)) (bytes replica : List ℕ) (count : ℕ) (mid rest : List ℕ) → group_at last bytes ≡ Ok ((replica, count), mid)
    → AddsSpans basis old new replica count mid rest → AddsGroup basis old new last bytes replica rest
group_added basis old new last bytes replica count mid rest e a = record {
  one = record { replica = replica; spans = a.all };
  reads = (mid, e ∙ ap (λ n. Ok ((replica, n), mid)) (sym a.reads.1), (a.reads.0, refl));
  of = refl;
  adds = a.adds;
  up_to = a.up_to;
}
