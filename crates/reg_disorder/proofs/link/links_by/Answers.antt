use Rattle.std.proofs.Common.{rules}
use Rattle.reg_op.specs.Ids.{id_cmp}
use Rattle.reg_op.proofs.OpLemmas.{id_total}
use Rattle.reg_report.proofs.WindowLemmas.{window_is}
use Rattle.reg_disorder.specs.declared.link.OlderLink.{OlderLink}
use Rattle.reg_disorder.proofs.LinkLemmas.{newer_ascends}
use Rattle.reg_disorder.proofs.link.links_by.Goals as goal

pub returns : goal.returns
returns c =
    window_is (λ (x : OlderLink). x.newer) id_cmp id_total c.args.newer c.args.links.now (newer_ascends c.args.links.now c.requires)
    c.partition_point-low.result c.partition_point-count.result
    c.partition_point-low.ensures.partitioned (λ a r q h. search rules) c.partition_point-count.ensures.partitioned (λ a r q h. search rules)
