use Rattle.std.proofs.Common.{arith}
use Rattle.reg_file.proofs.SpellLemmas.{counted_groups}
use Rattle.reg_file.proofs.spelling.replicas_of.Goals as goal

pub returns-clause-count : goal.returns-clause-count
returns-clause-count c = counted_groups c.loop-run.count c.loop-run.run-index c.loop-run.last c.args.runs.now c.loop-run.invariant.whole (omega (arith, c.loop-run-test.false))
