use Rattle.std.proofs.lemmas.List.Filters.{dedup_is}
use Rattle.reg_texts.proofs.SayingLemmas.{in_order}
use Rattle.reg_texts.proofs.texts.in_order.Goals as goal

pub returns : goal.returns
returns c = in_order _ c.sort_unstable.new.self.items _ c.sort_unstable.ensures.permutation c.sort_unstable.ensures.sorted (dedup_is _ _ _ c.dedup.ensures.filtered)
