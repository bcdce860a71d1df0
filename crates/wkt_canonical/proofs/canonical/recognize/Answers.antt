use Rattle.wkt_canonical.proofs.Wholes as wholes
use Rattle.wkt_canonical.proofs.canonical.recognize.Goals as goal

pub returns : goal.returns
returns c = wholes.all_of_it c.in_ok-seen.ensures (wholes.empty_is _ _ c.is_empty.ensures c.if-not-is_empty.false)
