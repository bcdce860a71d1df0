use Rattle.std.proofs.Common.{arith}
use Rattle.wkt_canonical.proofs.Ascii.{ascii_ends}
use Rattle.wkt_canonical.proofs.ends.end_of_ascii.Goals as goal

pub returns-then-run-lt-LANES : goal.returns-then-run-lt-LANES
returns-then-run-lt-LANES c = ascii_ends c.args.bytes.now c.loop-at.at c.plain_run-run.result (omega arith) c.loop-at.invariant.plain c.loop-at.invariant.low c.if-not-is_low.ensures c.plain_run-run.ensures c.if-run-lt-LANES.true
