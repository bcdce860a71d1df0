-- A walk along two lists of runs: their difference.
use Rattle.std.specs.Prelude.{◌≡◌, ℕ, ◌+◌, ◌-◌, ◌<◌, max, Bool, true, false, not, ◌&&◌, ◌||◌, List, [], ◌∷◌}
use Rattle.reg_op.specs.Ids.{Id, IsId, is_before}
use Rattle.reg_state.specs.declared.run.Run.{Run}
use Rattle.reg_state.specs.declared.seen_outside.RunWalk.{RunWalk}
use Rattle.reg_state.specs.Runs.{last_of, is_in_run, is_in_runs, IsBeyond, IsRun, AreRuns, EndInIds}

-- an id is in some runs, and not in others
abbrev pub is_outside : List Run → List Run → Id → Bool
is_outside ls rs i = is_in_runs i ls && not (is_in_runs i rs)

-- the ids of a run from a count on
abbrev pub from_count : ℕ → Run → Run
from_count low r = record { replica = r.replica; low = max r.low low; high = r.high }

-- some runs, the first of them from a count on
abbrev pub runs_from : ℕ → List Run → List Run
runs_from low [] = []
runs_from low (r ∷ rs) = from_count low r ∷ rs

-- the runs on the left that remain
abbrev pub lefts_of : RunWalk → List Run
lefts_of w = runs_from w.low w.lefts.now

-- an id is in the runs that remain on the left, and not in those that remain on the right
abbrev pub is_left : RunWalk → Id → Bool
is_left w i = is_outside (lefts_of w) w.rights.now i

-- both sides are runs
pub record IsWalk (w : RunWalk) : Type 0 where
  pub lefts : AreRuns (lefts_of w)
  pub rights : AreRuns w.rights.now
  pub ids : EndInIds w.lefts.now

-- how many ids some runs have
abbrev pub spans_of : List Run → ℕ
spans_of [] = 0
spans_of (r ∷ rs) = (r.high + 1 - r.low) + spans_of rs

-- a run was taken off the front
pub record IsTaken (old : RunWalk) (run : Run) (new : RunWalk) : Type 0 where
  pub walk : IsWalk new
  pub is_run : IsRun run
  pub id : IsId (last_of run)
  pub split : (i : Id) → is_left old i ≡ (is_in_run i run || is_left new i)
  pub beyond : (i : Id) → is_left new i ≡ true → IsBeyond run i
  pub smaller : spans_of (lefts_of new) < spans_of (lefts_of old)

-- of the ids that pass, the least one
pub record IsLeastOf (t : Id → Bool) (id : Id) : Type 0 where
  pub passes : t id ≡ true
  pub least : (i : Id) → t i ≡ true → is_before i id ≡ false
