use Rattle.wkt_write.proofs.Writes.{none_given}
use Rattle.wkt_write.proofs.arguments.push_maybe.Goals as goal

pub returns-in-None : goal.returns-in-None
returns-in-None g c = none_given g.T.Written.tree c.args.layout c.args.out.now.items c.args.item.now c.in-None.is
