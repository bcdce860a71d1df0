use Rattle.std.proofs.Common.{arith}
use Rattle.wkt_canonical.proofs.DigitRuns.{ends_early, stays_in}
use Rattle.wkt_canonical.proofs.digits.leading_digits.Goals as goal

pub returns-then-run-lt-LANES : goal.returns-then-run-lt-LANES
returns-then-run-lt-LANES c = ends_early c.args.bytes.now c.digit_run-run.result (omega arith) c.digit_run-run.ensures c.if-run-lt-LANES.true

pub overflow_add-result : goal.overflow_add-result
overflow_add-result c = omega (arith, c.few_digits-2.ensures, stays_in c.args.bytes.now (omega arith))
