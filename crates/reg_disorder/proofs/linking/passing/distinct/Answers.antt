use Rattle.std.proofs.lemmas.List.Filters.{dedup_is}
use Rattle.reg_report.proofs.SortLemmas.{sorted_items}
use Rattle.reg_disorder.proofs.Allowed.{link_total, link_exact, links_exact}
use Rattle.reg_disorder.proofs.linking.passing.distinct.Goals as goal

pub returns : goal.returns
returns c = sorted_items link_total link_exact _ links_exact c.args.links.items c.sort_unstable.new.self.items c.dedup.new.self.items c.sort_unstable.ensures.permutation c.sort_unstable.ensures.sorted (dedup_is _ _ _ c.dedup.ensures.filtered)
