use Rattle.std.proofs.Common.{ℕ, List, refl, ap, ◌∙◌, inl, inr, subst}
use Rattle.byte_io.specs.Whole.{WritesAll, IsCutAt}
use Rattle.reg_lint.specs.Lines.{has_rows}
use Rattle.reg_lint.specs.EngineLint.{IsLintOf}
use Rattle.reg_lint.proofs.engine.lint.run_lint_kept.Goals as goal

pub returns-in-Err-lint_beside-clause-fault : goal.returns-in-Err-lint_beside-clause-fault
returns-in-Err-lint_beside-clause-fault g c = λ ss are. inr (c.in-Ok.bytes.items, c.in-Ok.ensures.gives, c.in-Ok.ensures.headed, inl (refl, refl))

pub returns-in-Ok-write_all-clause-printed : goal.returns-in-Ok-write_all-clause-printed
returns-in-Ok-write_all-clause-printed g c = λ ss are. (
  c.in-Ok.bytes.items,
  c.in-Ok-lint_beside.text.items,
  c.in-Ok.ensures.gives,
  c.in-Ok.ensures.headed,
  subst (λ (b : List ℕ). IsLintOf c.args.rules.now b ss c.in-Ok-lint_beside.text.items) c.deref.ensures.value (c.in-Ok-lint_beside.ensures ss are),
  c.has_rows.ensures ∙ ap has_rows c.deref-in-Ok-write_all.ensures.value,
  subst (λ (l : List ℕ). WritesAll l (g.K.Sink.state c.args.sink.now) (g.K.Sink.state c.write_all.new.sink)) c.deref-2.ensures.value c.in-Ok-write_all.ensures.ok,
)

pub returns-clause-fault : goal.returns-clause-fault
returns-clause-fault g c = λ ss are.
    inr (
      c.in-Ok.bytes.items,
      c.in-Ok.ensures.gives,
      c.in-Ok.ensures.headed,
      inr (
        c.in-Ok-lint_beside.text.items,
        subst (λ (b : List ℕ). IsLintOf c.args.rules.now b ss c.in-Ok-lint_beside.text.items) c.deref.ensures.value (c.in-Ok-lint_beside.ensures ss are),
        subst (λ (l : List ℕ). IsCutAt c.in-Err-write_all.fault.written l (g.K.Sink.state c.args.sink.now) (g.K.Sink.state c.write_all.new.sink)) c.deref-2.ensures.value c.in-Err-write_all.ensures.fault,
      ),
    )
