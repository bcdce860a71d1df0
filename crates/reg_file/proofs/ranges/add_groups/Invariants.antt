use Rattle.reg_file.specs.Steps.{IsAddingGroups}
use Rattle.reg_file.proofs.ranges.add_groups.Given as goal

abbrev pub invariant-loop : goal.invariant-loop
invariant-loop l = IsAddingGroups l.basis l.seen l.bytes l.rest l.last l.counter
