use Rattle.wkt_canonical.proofs.Spelled.{spelled}
use Rattle.wkt_canonical.proofs.words.kind.Goals as goal

pub returns : goal.returns
returns c = spelled c.in_ok-word.word.now c.in_ok-word.rest.now c.in_ok-word.ensures c.word.ensures c.ne.ensures c.if-ne.false
