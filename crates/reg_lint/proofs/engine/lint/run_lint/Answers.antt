use Rattle.std.proofs.Common.{ℕ, List, refl, sym, inl, inr, subst}
use Rattle.reg_lint.specs.declared.kept.KeptSubject.{KeptSubject}
use Rattle.reg_lint.specs.Subjects.{AreKept}
use Rattle.reg_lint.specs.EngineLint.{AreUnlinted}
use Rattle.reg_lint.proofs.engine.lint.run_lint.Goals as goal

pub returns-in-Err-subjects_with-clause-fault : goal.returns-in-Err-subjects_with-clause-fault
returns-in-Err-subjects_with-clause-fault g c = inr (c.in-Ok.register, c.in-Ok.ensures.came, inl (refl, refl, refl))

pub returns-in-Ok-run_lint_kept-clause-printed : goal.returns-in-Ok-run_lint_kept-clause-printed
returns-in-Ok-run_lint_kept-clause-printed g c =
    let live = c.in-Ok-subjects_with.ensures in (
      c.in-Ok.register,
      live.0,
      c.in-Ok.ensures.came,
      live.1,
      c.in-Ok-run_lint_kept.ensures.printed live.0 (subst (λ (ks : List KeptSubject). AreKept ks live.0) (sym c.deref.ensures.value) live.2),
    )

pub returns-in-Err-run_lint_kept-clause-fault : goal.returns-in-Err-run_lint_kept-clause-fault
returns-in-Err-run_lint_kept-clause-fault g c =
    let live = c.in-Ok-subjects_with.ensures in
    inr (
      c.in-Ok.register,
      c.in-Ok.ensures.came,
      inr (
        live.0,
        live.1,
        subst (λ (k : ℕ). AreUnlinted c.args.rules.now live.0 k (g.S.Source.state c.args.known.now) (g.S.Source.state c.run_lint_kept.new.known) (g.K.Sink.state c.args.sink.now) (g.K.Sink.state c.run_lint_kept.new.sink) c.in-Err-run_lint_kept.fault)
            c.next-next.ensures
            (c.in-Err-run_lint_kept.ensures.fault live.0 (subst (λ (ks : List KeptSubject). AreKept ks live.0) (sym c.deref.ensures.value) live.2)),
      ),
    )
