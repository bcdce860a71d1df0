use Rattle.std.proofs.Common.{◌++◌, ◌∷◌, [], ap, subst, refl, ◌∙◌}
use Rattle.byte_io.specs.Whole.{WritesAll, IsCutAt}
use Rattle.reg_commands.proofs.ChangeLemmas.{part_of_canon}
use Rattle.reg_commands.proofs.check.run_check.Goals as goal

pub returns-in-Ok-write_all-clause-printed : goal.returns-in-Ok-write_all-clause-printed
returns-in-Ok-write_all-clause-printed g c =
    let found = c.in-Ok.ensures.found in (
      found.2.value,
      (found.0, found.1, found.2.spells),
      subst (λ l. WritesAll l (g.K.Sink.state c.args.sink.now) (g.K.Sink.state c.write_all.new.sink))
          (c.deref.ensures.value ∙ (c.in_default.ensures.items ∙ ap (λ t. t ++ 10 ∷ []) found.2.is)) c.in-Ok-write_all.ensures.ok,
    )

pub returns-clause-fault : goal.returns-clause-fault
returns-clause-fault g c =
    let found = c.in-Ok.ensures.found in (
      found.2.value,
      (found.0, found.1, found.2.spells),
      subst (λ l. IsCutAt c.in-Err-write_all.fault.written l (g.K.Sink.state c.args.sink.now) (g.K.Sink.state c.write_all.new.sink))
          (c.deref.ensures.value ∙ (c.in_default.ensures.items ∙ ap (λ t. t ++ 10 ∷ []) found.2.is)) c.in-Err-write_all.ensures.fault,
    )

pub returns-in-Err-push-clause-fault : goal.returns-in-Err-push-clause-fault
returns-in-Err-push-clause-fault g c =
    let old = g.S.Source.state c.args.source.now in
    let new = g.S.Source.state c.canonical_text_from.new.source in
    (part_of_canon old new c.in-Ok.canonical.items c.in-Ok.ensures.found, refl)
