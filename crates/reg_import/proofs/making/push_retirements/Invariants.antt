use Rattle.std.proofs.Common.{◌≡◌, ◌+◌, ◌<◌, ◌++◌, length}
use Rattle.reg_office.specs.Making.{numbered}
use Rattle.reg_import.specs.Plans.{retired}
use Rattle.reg_import.proofs.making.push_retirements.Given as goal

abbrev pub invariant-loop-entry : goal.invariant-loop-entry
invariant-loop-entry l = record {
  positive : 0 < l.count;
  count : l.count + length l.rest ≡ l.first + length l.entries;
  made : l.ops.items ++ numbered l.replica l.count l.note (retired l.rest) ≡ l.initial.ops.items ++ numbered l.replica l.first l.note (retired l.entries);
}

abbrev pub decreases-loop-entry : goal.decreases-loop-entry
decreases-loop-entry l = length l.rest
