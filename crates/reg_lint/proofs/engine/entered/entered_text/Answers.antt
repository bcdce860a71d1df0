use Rattle.std.proofs.Common.{List, sym, ap, subst, ◌∙◌}
use Rattle.reg_lint.specs.declared.kept.KeptSubject.{KeptSubject}
use Rattle.reg_lint.specs.Subjects.{AreKept}
use Rattle.reg_lint.specs.EngineEntered.{if_rows}
use Rattle.reg_lint.proofs.engine.entered.entered_text.Goals as goal

pub returns : goal.returns
returns c =
    let new = c.in_ok-kept.ensures in (
      new.0,
      new.1,
      c.if_rows.ensures ∙ ap if_rows (c.in_ok-text.ensures new.0 (subst (λ (ks : List KeptSubject). AreKept ks new.0) (sym c.deref.ensures.value) new.2)),
    )
