use Rattle.std.proofs.lemmas.Cmp.{nat_list_cmp_total}
use Rattle.std.proofs.lemmas.List.Filters.{dedup_is}
use Rattle.reg_op.proofs.OpLemmas.{bytes_exact}
use Rattle.reg_report.proofs.SortLemmas.{sorted_items}
use Rattle.reg_query.proofs.SeenLemmas.{replicas_exact}
use Rattle.reg_query.proofs.figures.replicas.distinct.Goals as goal

pub returns : goal.returns
returns c = sorted_items nat_list_cmp_total bytes_exact _ replicas_exact c.args.replicas.items c.sort_unstable.new.self.items c.dedup.new.self.items c.sort_unstable.ensures.permutation c.sort_unstable.ensures.sorted (dedup_is _ _ _ c.dedup.ensures.filtered)
