use Rattle.std.proofs.lemmas.List.Filters.{dedup_is}
use Rattle.reg_export.proofs.FileLemmas.{in_order}
use Rattle.reg_export.proofs.files.in_order.Goals as goal

pub returns : goal.returns
returns c = in_order c.args.files.items c.sort_unstable.new.self.items c.dedup.new.self.items c.sort_unstable.ensures.permutation c.sort_unstable.ensures.sorted (dedup_is _ _ _ c.dedup.ensures.filtered)
