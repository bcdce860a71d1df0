use Rattle.std.proofs.Common.{◌≡◌, ◌≤◌, ◌+◌, None, drop}
use Rattle.reg_file.specs.Spelling.{begun}
use Rattle.reg_file.proofs.spelling.replicas_of.Given as goal

abbrev pub invariant-loop-run : goal.invariant-loop-run
invariant-loop-run l = record {
  whole : l.count + begun l.last (drop l.run-index l.runs) ≡ begun None l.runs;
  few : l.count ≤ l.run-index;
}
