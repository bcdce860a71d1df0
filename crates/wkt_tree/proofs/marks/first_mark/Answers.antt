use Rattle.std.proofs.Common.{arith}
use Rattle.wkt_tree.proofs.PlainRuns.{first_at, first_nowhere, plain_on}
use Rattle.wkt_tree.proofs.marks.first_mark.Goals as goal

pub returns-then-run-lt-LANES-clause-first : goal.returns-then-run-lt-LANES-clause-first
returns-then-run-lt-LANES-clause-first c =
    let run = c.plain_run-run.ensures in
    first_at c.args.bytes.now _ (omega arith) (plain_on c.args.bytes.now c.loop-at.at _ c.loop-at.invariant.plain run.plain) (run.stops c.if-run-lt-LANES.true)

pub returns-then-bytes-at-eq34-clause-first : goal.returns-then-bytes-at-eq34-clause-first
returns-then-bytes-at-eq34-clause-first c = first_at c.args.bytes.now c.loop-at-2.at c.loop-at-2-test.true c.loop-at-2.invariant.plain (grind arith)

pub returns-clause-first : goal.returns-clause-first
returns-clause-first c = first_nowhere c.args.bytes.now c.loop-at-2.at c.loop-at-2-test.false c.loop-at-2.invariant.within c.loop-at-2.invariant.plain
