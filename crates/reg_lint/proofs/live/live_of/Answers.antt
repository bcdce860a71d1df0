use Rattle.std.proofs.Common.{refl, sym, ◌∙◌}
use Rattle.reg_lint.proofs.live.live_of.Goals as goal

pub returns : goal.returns
returns c =
    let form = c.in_ok-form.ensures in (
      record { label = c.in_ok-label.label.items; crs = form.0 },
      (sym c.is_retired.ensures ∙ c.if-is_retired.false, c.in_ok-label.ensures, form.1),
      (refl, form.2),
    )
