-- Runs one by one, with the replica before the first one of it.
use Rattle.std.specs.Prelude.{ℕ, ◌+◌, Bool, false, List, [], ◌∷◌, ◌++◌, Option, Some, None, if◌then◌else◌}
use Rattle.std.specs.List.{prefix_len}
use Rattle.std.specs.Ordering.{is_eq}
use Rattle.reg_state.specs.declared.run.Run.{Run}
use Rattle.reg_state.specs.Runs.{replica_cmp}
use Rattle.reg_file.specs.Layout.{four}

-- the run is of the last replica
abbrev pub is_of : Option (List ℕ) → Run → Bool
is_of None r = false
is_of (Some last) r = is_eq (replica_cmp last r.replica)

-- how many runs at the front are of a replica
abbrev pub leading : List ℕ → List Run → ℕ
leading replica rs = prefix_len (λ r. is_eq (replica_cmp replica r.replica)) rs

abbrev pub heading_of : Option (List ℕ) → Run → List Run → List ℕ
heading_of last r rs = if is_of last r then [] else r.replica ++ four (leading r.replica (r ∷ rs))

abbrev pub spelled : Option (List ℕ) → List Run → List ℕ
spelled last [] = []
spelled last (r ∷ rs) = heading_of last r rs ++ (four r.low ++ (four r.high ++ spelled (Some r.replica) rs))

-- how many replicas begin
abbrev pub begun : Option (List ℕ) → List Run → ℕ
begun last [] = 0
begun last (r ∷ rs) = (if is_of last r then 0 else 1) + begun (Some r.replica) rs
