use Rattle.reg_file.specs.Steps.{IsAddingSpans}
use Rattle.reg_file.proofs.ranges.add_spans.Given as goal

abbrev pub invariant-loop : goal.invariant-loop
invariant-loop l = IsAddingSpans l.basis l.fn.seen l.seen l.replica l.bytes l.rest l.floor l.counter
