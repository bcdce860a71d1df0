use Rattle.cli_open.proofs.Telling.{begins, goes_on, ends}
use Rattle.cli_open.proofs.ending.reporting.tell_each.Goals as goal

pub loop-one-init : goal.loop-one-init
loop-one-init g c = begins g.T.Teller.tells_left c.args.left.now c.args.teller.now

pub loop-one-preserved : goal.loop-one-preserved
loop-one-preserved g c =
    goes_on g.T.Teller.tells_left c.args.left.now c.loop-one.one-index c.one-item.result c.args.teller.now c.loop-one.teller c.left.new.self
    c.loop-one-test.true c.one-item.is c.loop-one.invariant c.left.ensures.told

pub returns : goal.returns
returns g c = ends g.T.Teller.tells_left c.args.left.now c.loop-one.one-index c.args.teller.now c.loop-one.teller c.loop-one-test.false c.loop-one.invariant
