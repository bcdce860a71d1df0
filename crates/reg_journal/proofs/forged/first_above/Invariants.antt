use Rattle.std.proofs.Common.{◌≡◌, length}
use Rattle.reg_op.specs.Ids.{Id}
use Rattle.reg_state.specs.Runs.{AreRuns}
use Rattle.reg_journal.proofs.ForgedLemmas.{is_above}
use Rattle.reg_journal.proofs.forged.first_above.Given as goal

abbrev pub invariant-loop-run : goal.invariant-loop-run
invariant-loop-run l = record {
  runs : AreRuns l.rest;
  same : (i : Id) → is_above l.replica l.last l.runs i ≡ is_above l.replica l.last l.rest i;
}

abbrev pub decreases-loop-run : goal.decreases-loop-run
decreases-loop-run l = length l.rest
