use Rattle.std.proofs.Common.{map, ap, ◌∙◌}
use Rattle.reg_report.specs.Conflicts.{bytes_of}
use Rattle.reg_news.specs.Keys.{fresh_keys}
use Rattle.reg_news.proofs.news.fresh_amiss.Goals as goal

pub returns : goal.returns
returns c = (
  map bytes_of c.in_ok-before.before.items,
  map bytes_of c.in_ok-after.after.items,
  c.in_ok-before.ensures,
  c.in_ok-after.ensures,
  c.in_ok-keys.ensures ∙ ap (λ l. fresh_keys (map bytes_of l) (map bytes_of c.in_ok-after.after.items)) c.deref.ensures.value,
)
