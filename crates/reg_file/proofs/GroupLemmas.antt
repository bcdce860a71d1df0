-- Ranges by replica are read as they are written, and are the runs of a set of ids.
use Rattle.std.proofs.Common.{◌≡◌, ℕ, ◌+◌, ◌^◌, ◌<◌, ◌≤◌, Bool, true, false, List, [], ◌∷◌, ◌++◌, length, map, Option, Some, None, refl, sym, ap, subst, ◌∙◌, append_assoc, arith, inl, inr}
use Rattle.std.specs.List.{flat_map}
use Rattle.std.specs.Int.{w32}
use Rattle.std.proofs.lemmas.List.{length-append, length-map}
use Rattle.std.proofs.lemmas.List.Concat.{flat_map-cons}
use Rattle.std.specs.Ordering.{is_eq, is_lt}
use Rattle.reg_op.specs.Ids.{Ids, IsId}
use Rattle.reg_op.proofs.SetLemmas.{less}
use Rattle.reg_state.specs.declared.run.Run.{Run}
use Rattle.reg_state.specs.Runs.{replica_cmp, IsBelow, last_of, IsRun, IsApart, AreRuns, EndInIds, meets}
use Rattle.reg_state.proofs.RunLemmas.{same_replica, replica_itself}
use Rattle.reg_file.specs.declared.span.Span.{Span}
use Rattle.reg_file.specs.Layout.{four, span_bytes, Group, group_bytes, ranges_bytes, span_of, run_at, runs_of, put, grouped}
use Rattle.reg_file.specs.Fields.{span_at, group_at, number_at, is_above}
use Rattle.reg_file.specs.Readers.{ReadsEach}
use Rattle.reg_file.specs.Reading.{span, floor_after, group, replica_after, ranges}
use Rattle.reg_file.proofs.FieldLemmas.{IsBytes, Takes, Takes-then, number_takes, number_again, IsSpan, span_takes, span_again, IsHeading, group_takes, group_again}

-- ---- groups are read as they are written

abbrev pub AreSpans : Ids → List ℕ → ℕ → List Span → Type 0
AreSpans basis replica floor [] = Unit {0}
AreSpans basis replica floor (s ∷ ss) = IsSpan basis replica floor s × AreSpans basis replica (s.high + 2) ss

abbrev pub AreGroups : Ids → Option (List ℕ) → List Group → Type 0
AreGroups basis last [] = Unit {0}
AreGroups basis last (g ∷ gs) = IsHeading last g.replica (length g.spans) × AreSpans basis g.replica 1 g.spans × AreGroups basis (Some g.replica) gs

spans_take : (basis : Ids) (replica : List ℕ) (floor : ℕ) (bytes : List ℕ) (ss : List Span) (rest : List ℕ) → IsBytes bytes → ReadsEach (span basis replica) floor_after floor bytes ss rest
    → Takes bytes (flat_map span_bytes ss) rest × AreSpans basis replica floor ss
spans_take basis replica floor bytes [] rest fits e = (record { parts = e; rest_fits = subst IsBytes e fits }, tt)
spans_take basis replica floor bytes (s ∷ ss) rest fits e =
    let first = span_takes basis replica floor bytes s e.0 fits e.1 in
    let others = spans_take basis replica (s.high + 2) e.0 ss rest first.0.rest_fits e.2 in
    (subst (λ (t : List ℕ). Takes bytes t rest) (sym (flat_map-cons span_bytes s ss)) (Takes-then bytes (span_bytes s) e.0 (flat_map span_bytes ss) rest first.0 others.0), (first.1, others.1))

spans_again : (basis : Ids) (replica : List ℕ) (floor : ℕ) (ss : List Span) (rest : List ℕ) → AreSpans basis replica floor ss → ReadsEach (span basis replica) floor_after floor (flat_map span_bytes ss ++ rest) ss rest
spans_again basis replica floor [] rest is = refl
spans_again basis replica floor (s ∷ ss) rest is = (
  flat_map span_bytes ss ++ rest,
  ap (span_at basis replica floor) (ap (λ (t : List ℕ). t ++ rest) (flat_map-cons span_bytes s ss) ∙ append_assoc (span_bytes s) (flat_map span_bytes ss) rest)
      ∙ span_again basis replica floor s (flat_map span_bytes ss ++ rest) is.0,
  spans_again basis replica (s.high + 2) ss rest is.1,
)

pub groups_take : (basis : Ids) (last : Option (List ℕ)) (bytes : List ℕ) (gs : List Group) (rest : List ℕ) → IsBytes bytes → ReadsEach (group basis) replica_after last bytes gs rest
    → Takes bytes (flat_map group_bytes gs) rest × AreGroups basis last gs
groups_take basis last bytes [] rest fits e = (record { parts = e; rest_fits = subst IsBytes e fits }, tt)
groups_take basis last bytes (g ∷ gs) rest fits e =
    let named = e.1 in
    let heading = group_takes last bytes g.replica (length g.spans) named.0 fits named.1 in
    let spans = spans_take basis g.replica 1 named.0 g.spans e.0 heading.0.rest_fits named.2.0 in
    let others = groups_take basis (Some g.replica) e.0 gs rest spans.0.rest_fits e.2 in
    let one = Takes-then bytes (g.replica ++ four (length g.spans)) named.0 (flat_map span_bytes g.spans) e.0 heading.0 spans.0 in
    let one' : Takes bytes (group_bytes g) e.0 = subst (λ (t : List ℕ). Takes bytes t e.0) (append_assoc g.replica (four (length g.spans)) (flat_map span_bytes g.spans)) one in
    (subst (λ (t : List ℕ). Takes bytes t rest) (sym (flat_map-cons group_bytes g gs)) (Takes-then bytes (group_bytes g) e.0 (flat_map group_bytes gs) rest one' others.0), (heading.1, spans.1, others.1))

pub groups_again : (basis : Ids) (last : Option (List ℕ)) (gs : List Group) (rest : List ℕ) → AreGroups basis last gs → ReadsEach (group basis) replica_after last (flat_map group_bytes gs ++ rest) gs rest
groups_again basis last [] rest is = refl
groups_again basis last (g ∷ gs) rest is = (
  behind,
  (
    flat_map span_bytes g.spans ++ behind,
    ap (group_at last) (ap (λ (t : List ℕ). t ++ rest) (flat_map-cons group_bytes g gs) ∙ regroup g.replica (four (length g.spans)) (flat_map span_bytes g.spans) (flat_map group_bytes gs) rest)
        ∙ group_again last g.replica (length g.spans) (flat_map span_bytes g.spans ++ behind) is.0,
    (spans_again basis g.replica 1 g.spans behind is.1, refl),
  ),
  groups_again basis (Some g.replica) gs rest is.2,
)
  where
    behind : List ℕ
    behind = flat_map group_bytes gs ++ rest

    regroup : (a b c d e : List ℕ) → ((a ++ (b ++ c)) ++ d) ++ e ≡ a ++ (b ++ (c ++ (d ++ e)))
    regroup a b c d e = simp append_assoc

-- ---- the runs of groups

abbrev group_of : List ℕ → List Span → Group
group_of replica ss = record { replica = replica; spans = ss }

pub put_same : (r : Run) (g : Group) (gs : List Group) → is_eq (replica_cmp r.replica g.replica) ≡ true → put r (g ∷ gs) ≡ group_of r.replica (span_of r ∷ g.spans) ∷ gs
put_same r g gs h = rw h refl

pub put_other : (r : Run) (g : Group) (gs : List Group) → is_eq (replica_cmp r.replica g.replica) ≡ false → put r (g ∷ gs) ≡ group_of r.replica (span_of r ∷ []) ∷ g ∷ gs
put_other r g gs h = rw h refl

-- the replica of the first group is above this one
abbrev IsNext : List ℕ → List Group → Type 0
IsNext replica [] = Unit {0}
IsNext replica (g ∷ gs) = IsBelow replica g.replica

differ_below : (a b : List ℕ) → IsBelow a b → is_eq (replica_cmp a b) ≡ false
differ_below a b h = ap is_eq h

put_first : (r : Run) (gs : List Group) → IsNext r.replica gs → put r gs ≡ group_of r.replica (span_of r ∷ []) ∷ gs
put_first r [] h = refl
put_first r (g ∷ gs) h = put_other r g gs (differ_below r.replica g.replica h)

grouped_one : (replica : List ℕ) (s : Span) (ss : List Span) (rs : List Run) (gs : List Group) → grouped rs ≡ gs → IsNext replica gs → grouped (map (run_at replica) (s ∷ ss) ++ rs) ≡ group_of replica (s ∷ ss) ∷ gs
grouped_one replica s [] rs gs e h = ap (put (run_at replica s)) e ∙ put_first (run_at replica s) gs h
grouped_one replica s (t ∷ ss) rs gs e h =
    ap (put (run_at replica s)) (grouped_one replica t ss rs gs e h) ∙ put_same (run_at replica s) (group_of replica (t ∷ ss)) gs (replica_itself replica)

next_of : (basis : Ids) (replica : List ℕ) (gs : List Group) → AreGroups basis (Some replica) gs → IsNext replica gs
next_of basis replica [] is = tt
next_of basis replica (g ∷ gs) is = less _ is.0.above

grouped_group : (g : Group) (gs hs : List Group) → grouped (runs_of gs) ≡ hs → hs ≡ gs → 0 < length g.spans → IsNext g.replica gs → grouped (map (run_at g.replica) g.spans ++ runs_of gs) ≡ g ∷ gs
grouped_group g gs hs is same some next = from g.spans refl
  where
    from : (ss : List Span) → g.spans ≡ ss → grouped (map (run_at g.replica) g.spans ++ runs_of gs) ≡ g ∷ gs
    from [] e = let l = ap length e in absurd (omega arith)
    from (s ∷ ss) e =
        ap (λ xs. grouped (map (run_at g.replica) xs ++ runs_of gs)) e ∙ grouped_one g.replica s ss (runs_of gs) gs (is ∙ same) next ∙ ap (λ xs. group_of g.replica xs ∷ gs) (sym e)

pub grouped_runs : (basis : Ids) (last : Option (List ℕ)) (gs : List Group) → AreGroups basis last gs → grouped (runs_of gs) ≡ gs
grouped_runs basis last [] is = refl
grouped_runs basis last (g ∷ gs) is = grouped_group g gs (grouped (runs_of gs)) refl (grouped_runs basis (Some g.replica) gs is.2) is.0.positive (next_of basis g.replica gs is.2)

-- the first of the runs is apart from r
abbrev BeginsApart : Run → List Run → Type 0
BeginsApart r [] = Unit {0}
BeginsApart r (s ∷ rs) = IsApart r s

cons_runs : (r : Run) (rs : List Run) → IsRun r → BeginsApart r rs → AreRuns rs → AreRuns (r ∷ rs)
cons_runs r [] is apart are = is
cons_runs r (s ∷ rs) is apart are = (is, apart, are)

first_apart : (basis : Ids) (r : Run) (gs : List Group) (last : Option (List ℕ)) → AreGroups basis last gs → IsNext r.replica gs → BeginsApart r (runs_of gs)
first_apart basis r [] last is h = tt
first_apart basis r (g ∷ gs) last is h = from g.spans refl
  where
    from : (ss : List Span) → g.spans ≡ ss → BeginsApart r (map (run_at g.replica) g.spans ++ runs_of gs)
    from [] e = let k : 0 < length g.spans = is.0.positive in let l = ap length e in absurd (omega arith)
    from (s ∷ ss) e = subst (λ xs. BeginsApart r (map (run_at g.replica) xs ++ runs_of gs)) (sym e) (inl h)

spans_runs : (basis : Ids) (replica : List ℕ) (floor : ℕ) (ss : List Span) (gs : List Group) → 1 ≤ floor → AreSpans basis replica floor ss → AreGroups basis (Some replica) gs → AreRuns (runs_of gs)
    → AreRuns (map (run_at replica) ss ++ runs_of gs)
spans_runs basis replica floor [] gs low is more are = are
spans_runs basis replica floor (s ∷ ss) gs low is more are =
    let above : floor ≤ s.low = is.0.above in
    cons_runs (run_at replica s) (map (run_at replica) ss ++ runs_of gs) (omega arith, is.0.ordered) (apart ss is.1) (spans_runs basis replica (s.high + 2) ss gs (omega arith) is.1 more are)
  where
    apart : (ss : List Span) → AreSpans basis replica (s.high + 2) ss → BeginsApart (run_at replica s) (map (run_at replica) ss ++ runs_of gs)
    apart [] k = first_apart basis (run_at replica s) gs (Some replica) more (next_of basis replica gs more)
    apart (t ∷ ss) k = let above : s.high + 2 ≤ t.low = k.0.above in inr (refl, omega arith)

pub groups_runs : (basis : Ids) (last : Option (List ℕ)) (gs : List Group) → AreGroups basis last gs → AreRuns (runs_of gs)
groups_runs basis last [] is = tt
groups_runs basis last (g ∷ gs) is = spans_runs basis g.replica 1 g.spans gs (omega arith) is.1 is.2 (groups_runs basis (Some g.replica) gs is.2)

-- ---- the groups of runs

pub runs_grouped : (rs : List Run) → runs_of (grouped rs) ≡ rs
runs_grouped [] = refl
runs_grouped (r ∷ rs) = put_runs r (grouped rs) ∙ ap (λ xs. r ∷ xs) (runs_grouped rs)
  where
    put_runs : (r : Run) (gs : List Group) → runs_of (put r gs) ≡ r ∷ runs_of gs
    put_runs r [] = refl
    put_runs r (g ∷ gs) = from (is_eq (replica_cmp r.replica g.replica)) refl
      where
        from : (b : Bool) → is_eq (replica_cmp r.replica g.replica) ≡ b → runs_of (put r (g ∷ gs)) ≡ r ∷ runs_of (g ∷ gs)
        from true e = ap runs_of (put_same r g gs e) ∙ (λ k. r ∷ map (run_at (same_replica r.replica g.replica e k)) g.spans ++ runs_of gs)
        from false e = ap runs_of (put_other r g gs e)

-- the first range of the first group is the run
pub record BeginsWith (s : Run) (gs : List Group) : Type 0 where
  pub spans : List Span
  pub others : List Group
  pub whole : gs ≡ group_of s.replica (span_of s ∷ spans) ∷ others

pub put_begins : (s : Run) (gs : List Group) → BeginsWith s (put s gs)
put_begins s [] = record { spans = []; others = []; whole = refl }
put_begins s (g ∷ gs) = from (is_eq (replica_cmp s.replica g.replica)) refl
  where
    from : (b : Bool) → is_eq (replica_cmp s.replica g.replica) ≡ b → BeginsWith s (put s (g ∷ gs))
    from true e = record { spans = g.spans; others = gs; whole = put_same s g gs e }
    from false e = record { spans = []; others = g ∷ gs; whole = put_other s g gs e }

-- a run that does not meet the basis may be the first range of its replica
first_span : (basis : Ids) (r : Run) → IsRun r → IsId (last_of r) → meets basis r ≡ false → IsSpan basis r.replica 1 (span_of r)
first_span basis r is id apart = record { above = is.0; ordered = is.1; fits = id.fits; apart = apart }

heading : (last : Option (List ℕ)) (r : Run) (n : ℕ) → IsId (last_of r) → is_above last r.replica ≡ true → 0 < n → n < 2 ^ 32 → IsHeading last r.replica n
heading last r n id above some fits = record { long = id.long; bytes = id.bytes; above = above; positive = some; fits = fits }

lower : (basis : Ids) (last : Option (List ℕ)) (g : Group) (gs : List Group) → AreGroups basis None (g ∷ gs) → is_above last g.replica ≡ true → AreGroups basis last (g ∷ gs)
lower basis last g gs is above = (record { long = is.0.long; bytes = is.0.bytes; above = above; positive = is.0.positive; fits = is.0.fits }, is.1, is.2)

-- a run may be put before groups if it is apart from their first run, and does not meet the basis
put_good : (basis : Ids) (r s : Run) (spans : List Span) (others : List Group) → IsRun r → IsId (last_of r) → meets basis r ≡ false → IsApart r s → length spans + 2 < 2 ^ 32
    → AreGroups basis None (group_of s.replica (span_of s ∷ spans) ∷ others) → AreGroups basis None (put r (group_of s.replica (span_of s ∷ spans) ∷ others))
put_good basis r s spans others is id out (inl below) few good =
    subst (AreGroups basis None) (sym (put_other r (group_of s.replica (span_of s ∷ spans)) others (differ_below r.replica s.replica below)))
    (heading None r 1 id refl (omega arith) (omega arith), (first_span basis r is id out, tt), lower basis (Some r.replica) (group_of s.replica (span_of s ∷ spans)) others good (ap is_lt below))
put_good basis r s spans others is id out (inr near) few good =
    let tied : is_eq (replica_cmp r.replica s.replica) ≡ true = subst (λ q. is_eq (replica_cmp r.replica q) ≡ true) near.0 (replica_itself r.replica) in
    subst (AreGroups basis None) (sym (put_same r (group_of s.replica (span_of s ∷ spans)) others tied)) (
      heading None r (length (span_of r ∷ span_of s ∷ spans)) id refl (omega arith) (omega arith),
      (first_span basis r is id out, subst (λ q. AreSpans basis q (r.high + 2) (span_of s ∷ spans)) (sym near.0) (record { above = (let k : r.high + 1 < s.low = near.1 in omega arith); ordered = good.1.0.ordered; fits = good.1.0.fits; apart = good.1.0.apart }, good.1.1)),
      subst (λ q. AreGroups basis (Some q) others) (sym near.0) good.2,
    )

spans_few : (s : Run) (spans : List Span) (others : List Group) (rs : List Run) → runs_of (group_of s.replica (span_of s ∷ spans) ∷ others) ≡ rs → length spans + 1 ≤ length rs
spans_few s spans others rs e =
    let whole = ap length e in
    let a = length-append (map (run_at s.replica) (span_of s ∷ spans)) (runs_of others) in
    let m = length-map (span_of s ∷ spans) (run_at s.replica) in
    omega arith

-- no run meets the basis
abbrev pub AllApart : Ids → List Run → Type 0
AllApart basis [] = Unit {0}
AllApart basis (r ∷ rs) = (meets basis r ≡ false) × AllApart basis rs

pub good_groups : (basis : Ids) (rs : List Run) → AreRuns rs → EndInIds rs → AllApart basis rs → length rs < 2 ^ 32 → AreGroups basis None (grouped rs)
good_groups basis [] are ids out few = tt
good_groups basis (r ∷ []) are ids out few = (heading None r 1 ids.0 refl (omega arith) (omega arith), (first_span basis r are ids.0 out.0, tt), tt)
good_groups basis (r ∷ s ∷ rs) are ids out few =
    let b = put_begins s (grouped rs) in
    let good : AreGroups basis None (group_of s.replica (span_of s ∷ b.spans) ∷ b.others) = subst (AreGroups basis None) b.whole (good_groups basis (s ∷ rs) are.2 ids.1 out.1 (omega arith)) in
    let short = spans_few s b.spans b.others (s ∷ rs) (ap runs_of (sym b.whole) ∙ runs_grouped (s ∷ rs)) in
    subst (λ gs. AreGroups basis None (put r gs)) (sym b.whole) (put_good basis r s b.spans b.others are.0 ids.0 out.0 are.1 (omega arith) good)

-- ---- all ranges

pub ranges_take : (basis : Ids) (bytes : List ℕ) (n : ℕ) (gs : List Group) (rest : List ℕ) → IsBytes bytes → (ranges basis).Reads bytes (n, gs) rest → Takes bytes (ranges_bytes gs) rest × AreGroups basis None gs
ranges_take basis bytes n gs rest fits e =
    let first = number_takes bytes n e.0 fits e.1 in
    let others = groups_take basis None e.0 gs rest first.0.rest_fits e.2.0 in
    let both = Takes-then bytes (four n) e.0 (flat_map group_bytes gs) rest first.0 others.0 in
    (subst (λ k. Takes bytes (four k ++ flat_map group_bytes gs) rest) (sym e.2.1) both, others.1)

pub ranges_again : (basis : Ids) (gs : List Group) (rest : List ℕ) → length gs < 2 ^ 32 → AreGroups basis None gs → (ranges basis).Reads (ranges_bytes gs ++ rest) (length gs, gs) rest
ranges_again basis gs rest few is = (
  flat_map group_bytes gs ++ rest,
  ap (number_at w32) (append_assoc (four (length gs)) (flat_map group_bytes gs) rest) ∙ number_again (length gs) (flat_map group_bytes gs ++ rest) few,
  (groups_again basis None gs rest is, refl),
)
