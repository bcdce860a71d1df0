use Rattle.std.proofs.Common.{◌≡◌, ◌≤◌, ◌+◌, None, length, drop}
use Rattle.reg_report.specs.Between.{gaps_between}
use Rattle.reg_page.proofs.gaps.count_gaps.Given as goal

abbrev pub invariant-loop-run : goal.invariant-loop-run
invariant-loop-run l = record {
  whole : l.count + length (gaps_between l.before (drop l.run-index l.runs)) ≡ length (gaps_between None l.runs);
  few : l.count ≤ l.run-index;
}
