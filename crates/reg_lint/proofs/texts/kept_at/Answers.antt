use Rattle.std.proofs.Common.{refl}
use Rattle.reg_lint.proofs.texts.kept_at.Goals as goal

pub returns-clause-ok : goal.returns-clause-ok
returns-clause-ok c = (
  record { label = c.in-Ok-label_of.label.items; crs = c.in-Ok.crs },
  (c.in-Ok-label_of.ensures, c.in-Ok.ensures.ok),
  (refl, c.in-Ok-form_of_text.ensures c.in-Ok.ensures.ok),
)
