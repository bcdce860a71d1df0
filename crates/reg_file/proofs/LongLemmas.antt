-- A list of operations or of runs has no more elements than its bytes in a file.
use Rattle.std.proofs.Common.{◌≡◌, ℕ, ◌+◌, ◌≤◌, Bool, true, false, List, [], ◌∷◌, ◌++◌, length, map, refl, ap, arith, ◌<◌, ◌^◌}
use Rattle.std.proofs.lemmas.List.{length-append, length-map}
use Rattle.std.proofs.lemmas.List.Concat.{flat_map-cons}
use Rattle.std.specs.List.{flat_map}
use Rattle.std.specs.Ordering.{is_eq}
use Rattle.reg_op.specs.Operations.{Op}
use Rattle.reg_state.specs.declared.run.Run.{Run}
use Rattle.reg_state.specs.Runs.{replica_cmp}
use Rattle.reg_file.specs.Layout.{four, op_bytes, ops_bytes, Group, group_bytes, span_bytes, ranges_bytes, runs_of, run_at, put, grouped}
use Rattle.reg_file.specs.Files.{most}
use Rattle.reg_file.proofs.GroupLemmas.{put_same, put_other, runs_grouped}

flat_long : {A : Type 0} (f : A → List ℕ) → ((x : A) → 1 ≤ length (f x)) → (xs : List A) → length xs ≤ length (flat_map f xs)
flat_long f each [] = omega arith
flat_long f each (x ∷ xs) =
    let rest = flat_long f each xs in
    let one = each x in
    let whole = ap length (flat_map-cons f x xs) in
    let parts = length-append (f x) (flat_map f xs) in
    omega arith

op_long : (version : ℕ) (o : Op) → 1 ≤ length (op_bytes version o)
op_long version o = op_bytes_long o.id.replica (four o.id.count) _ _
  where
    op_bytes_long : (a b : List ℕ) (k : ℕ) (c : List ℕ) → 1 ≤ length ((a ++ b) ++ (k ∷ c))
    op_bytes_long a b k c = let e = length-append (a ++ b) (k ∷ c) in omega arith

group_long : (g : Group) → length g.spans + 1 ≤ length (group_bytes g)
group_long g =
    let a = length-append g.replica (four (length g.spans) ++ flat_map span_bytes g.spans) in
    let b = length-append (four (length g.spans)) (flat_map span_bytes g.spans) in
    let c : length (four (length g.spans)) ≡ 4 = refl in
    let d = flat_long span_bytes (λ s. omega arith) g.spans in
    omega arith

runs_long : (gs : List Group) → length (runs_of gs) ≤ length (flat_map group_bytes gs)
runs_long [] = omega arith
runs_long (g ∷ gs) =
    let rest = runs_long gs in
    let one = group_long g in
    let m = length-map g.spans (run_at g.replica) in
    let r = length-append (map (run_at g.replica) g.spans) (runs_of gs) in
    let whole = ap length (flat_map-cons group_bytes g gs) in
    let parts = length-append (group_bytes g) (flat_map group_bytes gs) in
    omega arith

pub ops_long : (version : ℕ) (os : List Op) → length os ≤ length (ops_bytes version os)
ops_long version os =
    let a = length-append (four (length os)) (flat_map (op_bytes version) os) in
    let b = flat_long (op_bytes version) (op_long version) os in
    omega arith

pub ranges_long : (rs : List Run) → length rs ≤ length (ranges_bytes (grouped rs))
ranges_long rs =
    let gs = grouped rs in
    let a = length-append (four (length gs)) (flat_map group_bytes gs) in
    let b = runs_long gs in
    let c = ap length (runs_grouped rs) in
    omega arith

put_long : (r : Run) (gs : List Group) → length (put r gs) ≤ length gs + 1
put_long r [] = omega arith
put_long r (g ∷ gs) = from (is_eq (replica_cmp r.replica g.replica)) refl
  where
    from : (b : Bool) → is_eq (replica_cmp r.replica g.replica) ≡ b → length (put r (g ∷ gs)) ≤ length (g ∷ gs) + 1
    from true e = let l = ap length (put_same r g gs e) in omega arith
    from false e = let l = ap length (put_other r g gs e) in omega arith

pub grouped_long : (rs : List Run) → length (grouped rs) ≤ length rs
grouped_long [] = omega arith
grouped_long (r ∷ rs) =
    let one = put_long r (grouped rs) in
    let rest = grouped_long rs in
    omega arith

-- a file whose size is given is not too large, and has few parts
pub within_most : (n size : ℕ) → size ≡ n → size ≤ 67108864 → n ≤ most
within_most n size e h = omega arith

pub few_parts : (k n size : ℕ) → size ≡ n → size ≤ 67108864 → k ≤ n → k < 2 ^ 32
few_parts k n size e h le = omega arith
