use Rattle.std.proofs.Common.{◌≡◌, ◌<◌, ◌^◌, ◌++◌, length, None}
use Rattle.reg_file.specs.Spelling.{spelled}
use Rattle.reg_file.proofs.spelling.put_runs.Given as goal

abbrev pub invariant-loop-run : goal.invariant-loop-run
invariant-loop-run l = record {
  whole : l.out.items ++ spelled l.last l.rest ≡ l.fn.out.items ++ spelled None l.runs;
  few : length l.rest < 2 ^ 32;
}

abbrev pub decreases-loop-run : goal.decreases-loop-run
decreases-loop-run l = length l.rest
