use Rattle.std.proofs.Common.{map, ap, ◌∙◌}
use Rattle.reg_report.specs.Conflicts.{Contested}
use Rattle.reg_report.specs.Contenders.{conflict_seen}
use Rattle.reg_news.proofs.KeyLemmas.{map_twice}
use Rattle.reg_news.proofs.news.conflict_keys.Goals as goal

pub returns : goal.returns
returns c = (
  map conflict_seen c.in_ok-conflicts.conflicts.items,
  c.in_ok-conflicts.ensures,
  c.in_ok-keys.ensures ∙ ap (map (λ x. (conflict_seen x).key)) c.deref.ensures.value ∙ map_twice conflict_seen (λ (x : Contested). x.key) c.in_ok-conflicts.conflicts.items,
)
