use Rattle.std.specs.Prelude.{◌≢◌, ◌↔◌, [], ℕ, List, IsTrue}
use Rattle.std.proofs.Common.{refl, inl, inr, subst}
use Rattle.byte_io.specs.Whole.{WritesAll, IsCutAt}
use Rattle.reg_texts.proofs.engines.differs.run_differs.Goals as goal

pub returns-in-Err-text-clause-fault : goal.returns-in-Err-text-clause-fault
returns-in-Err-text-clause-fault g c = inr (c.in-Ok.register, c.in-Ok.ensures.came, inl (c.in-Err-text.ensures.refuses, refl))

pub returns-in-Ok-write_all-clause-printed : goal.returns-in-Ok-write_all-clause-printed
returns-in-Ok-write_all-clause-printed g c = (
  c.in-Ok.register,
  c.in-Ok.ensures.came,
  (
    c.in-Ok-text.text.items,
    (
      c.in-Ok-text.ensures.prints,
      subst (λ (l : List ℕ). IsTrue c.has_any.result ↔ (l ≢ [])) c.deref-in-Ok-write_all.ensures.value c.has_any.ensures,
    ),
    subst (λ (l : List ℕ). WritesAll l (g.K.Sink.state c.args.sink.now) (g.K.Sink.state c.write_all.new.sink)) c.deref.ensures.value c.in-Ok-write_all.ensures.ok,
  ),
)

pub returns-clause-fault : goal.returns-clause-fault
returns-clause-fault g c =
    inr (
      c.in-Ok.register,
      c.in-Ok.ensures.came,
      inr (
        c.in-Ok-text.text.items,
        c.in-Ok-text.ensures.prints,
        subst (λ (l : List ℕ). IsCutAt c.in-Err-write_all.fault.written l (g.K.Sink.state c.args.sink.now) (g.K.Sink.state c.write_all.new.sink)) c.deref.ensures.value c.in-Err-write_all.ensures.fault,
      ),
    )
