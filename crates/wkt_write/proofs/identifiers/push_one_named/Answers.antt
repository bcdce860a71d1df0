use Rattle.std.proofs.lemmas.Result.{on_ok_weaker}
use Rattle.wkt_write.proofs.Writes.{argument}
use Rattle.wkt_write.proofs.identifiers.push_one_named.Goals as goal

pub returns : goal.returns
returns c = on_ok_weaker c.push_named.result (argument c.args.layout _ _ c.in_ok-push_comma.ensures) c.push_named.ensures
