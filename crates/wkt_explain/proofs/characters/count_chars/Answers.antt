use Rattle.wkt_explain.proofs.CharLemmas.{all_counted}
use Rattle.wkt_explain.proofs.characters.count_chars.Goals as goal

pub returns-clause-count : goal.returns-clause-count
returns-clause-count c = all_counted _ _ c.loop-others.rest.now c.in_default.ensures c.loop-others.invariant.0
