use Rattle.std.proofs.Common.{◌+◌, ◌≤◌, sym, subst, arith}
use Rattle.reg_file.specs.Steps.{IsAddingSpans}
use Rattle.reg_file.specs.Layout.{run_at}
use Rattle.reg_file.proofs.FieldLemmas.{span_tested}
use Rattle.reg_file.proofs.RangeLemmas.{above_run, step_spans}
use Rattle.reg_file.proofs.ranges.add_spans.Goals as goal

pub add_run-requires-clause-run : goal.add_run-requires-clause-run
add_run-requires-clause-run c =
    let o = span_tested c.args.basis.now c.args.replica c.loop.floor c.loop.rest.now c.in-Ok.read.0 c.in-Ok.read.1.now c.in-Ok.ensures in
    let low : c.loop.floor ≤ c.in-Ok.read.0.low = o.above in
    let positive : 1 ≤ c.loop.floor = c.loop.invariant.positive in
    (omega arith, o.ordered)

pub add_run-requires-clause-above : goal.add_run-requires-clause-above
add_run-requires-clause-above c =
    above_run c.loop.seen (run_at c.args.replica c.in-Ok.read.0) c.loop.floor c.loop.invariant.under (span_tested c.args.basis.now c.args.replica c.loop.floor c.loop.rest.now c.in-Ok.read.0 c.in-Ok.read.1.now c.in-Ok.ensures).above

pub loop-preserved : goal.loop-preserved
loop-preserved c =
    subst (λ h. IsAddingSpans c.args.basis.now c.args.seen.now c.add_run.new.self c.args.replica c.args.bytes.now c.in-Ok.read.1.now (h + 2) (c.loop.counter + 1)) (sym c.from-floor.ensures)
    (step_spans c.args.basis.now c.args.seen.now c.loop.seen c.add_run.new.self c.args.replica c.args.bytes.now c.loop.rest.now c.loop.floor c.loop.counter c.in-Ok.read.0 c.in-Ok.read.1.now c.loop.invariant c.in-Ok.ensures c.in_ok-add_run.ensures.ok)
