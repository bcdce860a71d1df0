use Rattle.std.proofs.Common.{take}
use Rattle.reg_news.specs.Revived.{HasIds}
use Rattle.reg_news.proofs.gained.revived.known_ids.Given as goal

abbrev pub invariant-loop-id : goal.invariant-loop-id
invariant-loop-id l = HasIds (take l.id-index l.ids) l.known
