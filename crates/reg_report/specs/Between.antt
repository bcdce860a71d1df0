-- The counts that are missing between runs.
use Rattle.std.specs.Prelude.{ℕ, ◌+◌, ◌-◌, nat_lt, List, [], ◌∷◌, ◌++◌, Option, Some, None, if◌then◌else◌}
use Rattle.std.specs.Ordering.{is_eq}
use Rattle.reg_state.specs.declared.run.Run.{Run}
use Rattle.reg_state.specs.Runs.{replica_cmp}
use Rattle.reg_report.specs.declared.gap.Gap.{Gap}

-- the last count of a run, if it is of the replica
abbrev pub last_count : Option Run → List ℕ → ℕ
last_count None replica = 0
last_count (Some run) replica = if is_eq (replica_cmp run.replica replica) then run.high else 0

-- the counts of a run's replica that are missing between the run before it and the run
abbrev pub gaps_at : Option Run → Run → List Gap
gaps_at before run =
    if nat_lt (last_count before run.replica + 1) run.low
    then record { replica = run.replica; low = last_count before run.replica + 1; high = run.low - 1 } ∷ []
    else []

abbrev pub gaps_between : Option Run → List Run → List Gap
gaps_between before [] = []
gaps_between before (run ∷ runs) = gaps_at before run ++ gaps_between (Some run) runs
