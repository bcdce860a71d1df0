use Rattle.std.proofs.lemmas.List.Filters.{dedup_is}
use Rattle.reg_op.proofs.OpLemmas.{id_total, id_exact}
use Rattle.reg_report.proofs.SortLemmas.{sorted_items, ids_exact}
use Rattle.reg_report.proofs.distinct.distinct.Goals as goal

pub returns : goal.returns
returns c = sorted_items id_total id_exact _ ids_exact c.args.ids.items c.sort_unstable.new.self.items c.dedup.new.self.items c.sort_unstable.ensures.permutation c.sort_unstable.ensures.sorted (dedup_is _ _ _ c.dedup.ensures.filtered)
