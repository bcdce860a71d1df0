use Rattle.std.proofs.Common.{map, ap, ◌∙◌}
use Rattle.reg_disorder.specs.Disorders.{Keyed}
use Rattle.reg_disorder.specs.Lists.{listed_seen}
use Rattle.reg_news.proofs.KeyLemmas.{map_twice}
use Rattle.reg_news.proofs.news.amiss_keys.Goals as goal

pub returns : goal.returns
returns c = (
  map listed_seen c.in_ok-listed.listed.items,
  c.in_ok-listed.ensures,
  c.in_ok-keys.ensures ∙ ap (map (λ x. (listed_seen x).key)) c.deref.ensures.value ∙ map_twice listed_seen (λ (x : Keyed). x.key) c.in_ok-listed.listed.items,
)
