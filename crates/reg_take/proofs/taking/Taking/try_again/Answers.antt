use Rattle.std.proofs.Common.{arith}
use Rattle.reg_take.proofs.AgainLemmas.{first_round, next_round, last_round}
use Rattle.reg_take.proofs.taking.Taking.try_again.Goals as goal

pub loop-before-init : goal.loop-before-init
loop-before-init c t shows = first_round c.args.arrivals.now t c.args.self c.in_ok-taking.taking c.len-before.result c.in_ok-taking.ensures (omega (arith, c.len-before.ensures)) shows

pub loop-before-preserved : goal.loop-before-preserved
loop-before-preserved c t shows = next_round c.args.arrivals.now t c.loop-before.taking c.in_ok-taking-2.taking c.loop-before.before c.len-before-in-loop-before.result c.in_ok-taking-2.ensures (omega (arith, c.len-before-in-loop-before.ensures)) (c.loop-before.invariant t shows)

pub returns : goal.returns
returns c t shows = last_round c.args.arrivals.now t c.loop-before.taking c.loop-before.before (omega (arith, c.loop-before-test.false, c.len.ensures)) (c.loop-before.invariant t shows)
