use Rattle.std.proofs.Common.{rules}
use Rattle.reg_report.specs.Conflicts.{key_cmp}
use Rattle.reg_report.specs.Keys.{key_bytes}
use Rattle.reg_report.proofs.ConflictLemmas.{key_total}
use Rattle.reg_report.proofs.WindowLemmas.{ascends_by_key, window_is}
use Rattle.reg_disorder.specs.declared.settling.rival.Rival.{Rival}
use Rattle.reg_disorder.proofs.settling.rival.of_key.Goals as goal

pub returns : goal.returns
returns c =
    window_is (λ (r : Rival). key_bytes r.key) key_cmp key_total (key_bytes c.args.key.now) c.args.rivals.now
    (ascends_by_key (λ (r : Rival). key_bytes r.key) key_cmp key_total c.args.rivals.now c.requires)
    c.partition_point-low.result c.partition_point-count.result
    c.partition_point-low.ensures.partitioned (λ a r q h. search rules) c.partition_point-count.ensures.partitioned (λ a r q h. search rules)
