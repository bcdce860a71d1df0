use Rattle.wkt_explain.proofs.CharLemmas.{none_dropped}
use Rattle.wkt_explain.proofs.characters.after_chars.Goals as goal

pub returns-in_default : goal.returns-in_default
returns-in_default c = none_dropped c.loop-left.left c.loop-left.rest.now _ c.in_default.ensures c.loop-left.invariant
