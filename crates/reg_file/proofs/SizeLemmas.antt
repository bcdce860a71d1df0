-- The length of files, and when one is too large.
use Rattle.std.proofs.Common.{◌≡◌, ℕ, ◌+◌, ◌*◌, ◌^◌, ◌<◌, ◌≤◌, List, [], ◌∷◌, ◌++◌, length, map, Option, Some, None, refl, ap, subst, arith}
use Rattle.std.specs.List.{flat_map}
use Rattle.std.proofs.lemmas.List.{length-append, length-map}
use Rattle.std.proofs.lemmas.List.Concat.{flat_map-cons}
use Rattle.reg_op.specs.Set as set
use Rattle.reg_op.specs.Ids.{Ids}
use Rattle.reg_op.specs.Operations.{Op}
use Rattle.reg_op.specs.Contents.{Content}
use Rattle.reg_state.specs.declared.run.Run.{Run}
use Rattle.reg_state.specs.Runs.{AreRuns, EndInIds, seen_of}
use Rattle.reg_file.specs.declared.span.Span.{Span}
use Rattle.reg_file.specs.Layout.{four, span_bytes, Group, group_bytes, ranges_bytes, run_at, runs_of, grouped, register_file}
use Rattle.reg_file.specs.Files.{most, IsFileIn, IsTooLargeIn}
use Rattle.reg_file.proofs.GroupLemmas.{AreGroups, runs_grouped, good_groups}
use Rattle.reg_file.proofs.ApartLemmas.{apart_from_none}
use Rattle.reg_file.proofs.LongLemmas.{ranges_long}
use Rattle.reg_file.proofs.HoldLemmas.{one_file_in}

-- ---- the length of ranges

spans_length : (ss : List Span) → length (flat_map span_bytes ss) ≡ 8 * length ss
spans_length [] = refl
spans_length (s ∷ ss) =
    let rest = spans_length ss in
    let whole = ap length (flat_map-cons span_bytes s ss) in
    let parts = length-append (span_bytes s) (flat_map span_bytes ss) in
    let one : length (span_bytes s) ≡ 8 = refl in
    omega arith

groups_length : (basis : Ids) (last : Option (List ℕ)) (gs : List Group) → AreGroups basis last gs → length (flat_map group_bytes gs) ≡ 20 * length gs + 8 * length (runs_of gs)
groups_length basis last [] is = refl
groups_length basis last (g ∷ gs) is =
    let rest = groups_length basis (Some g.replica) gs is.2 in
    let whole = ap length (flat_map-cons group_bytes g gs) in
    let parts = length-append (group_bytes g) (flat_map group_bytes gs) in
    let a = length-append g.replica (four (length g.spans) ++ flat_map span_bytes g.spans) in
    let b = length-append (four (length g.spans)) (flat_map span_bytes g.spans) in
    let c : length (four (length g.spans)) ≡ 4 = refl in
    let long : length g.replica ≡ 16 = is.0.long in
    let d = spans_length g.spans in
    let m = length-map g.spans (run_at g.replica) in
    let r = length-append (map (run_at g.replica) g.spans) (runs_of gs) in
    omega arith

pub ranges_length : (rs : List Run) (replicas : ℕ) → AreRuns rs → EndInIds rs → length rs ≤ most → replicas ≡ length (grouped rs) → length (ranges_bytes (grouped rs)) ≡ 4 + 20 * replicas + 8 * length rs
ranges_length rs replicas are ids few counted =
    let gs = grouped rs in
    let a = length-append (four (length gs)) (flat_map group_bytes gs) in
    let four_is : length (four (length gs)) ≡ 4 = refl in
    let short : length rs < 2 ^ 32 = omega arith in
    let b = groups_length set.empty None gs (good_groups set.empty rs are ids (apart_from_none rs) short) in
    let c = ap length (runs_grouped rs) in
    omega arith

pub ranges_size : (size : ℕ) (rs : List Run) (replicas : ℕ) → AreRuns rs → EndInIds rs → length rs ≤ most → replicas ≡ length (grouped rs) → size + 4 + 20 * replicas + 8 * length rs ≡ size + length (ranges_bytes (grouped rs))
ranges_size size rs replicas are ids few counted = let l = ranges_length rs replicas are ids few counted in omega arith

pub ranges_over : (size : ℕ) (rs : List Run) (replicas limit : ℕ) → AreRuns rs → EndInIds rs → length rs ≤ most → replicas ≡ length (grouped rs) → limit < size + 4 + 20 * replicas + 8 * length rs
    → limit < size + length (ranges_bytes (grouped rs))
ranges_over size rs replicas limit are ids few counted h = subst (λ n. limit < n) (ranges_size size rs replicas are ids few counted) h

pub many_runs : (size : ℕ) (rs : List Run) → most < length rs → most < size + length (ranges_bytes (grouped rs))
many_runs size rs h = let l = ranges_long rs in omega arith

-- ---- files that are too large

pub file_of : (version : ℕ) (x : Content) (os : List Op) (rs : List Run) → os ≡ set.items x.ops → AreRuns rs → seen_of rs ≡ x.seen → IsFileIn version x (register_file version os rs)
file_of version x os rs e are all = record { runs = rs; are_runs = are; all = all; whole = ap (λ xs. register_file version xs rs) e }

pub not_large : (version : ℕ) (x : Content) (bytes : List ℕ) → IsFileIn version x bytes → length bytes ≤ most → IsTooLargeIn version x → ⊥
not_large version x bytes f short t =
    let same = ap length (one_file_in version x bytes t.0 f t.1) in
    let over : most < length t.0 = t.2 in
    omega arith
