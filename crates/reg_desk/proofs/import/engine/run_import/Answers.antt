use Rattle.std.proofs.Common.{ℕ, refl, subst, map, inl, inr}
use Rattle.std.specs.declared.option.Option.{Option}
use Rattle.reg_desk.specs.declared.import.fault.Unimported.{Unimported}
use Rattle.reg_desk.specs.Import.{IsReadyIn, IsUnreadyIn}
use Rattle.reg_desk.specs.ImportEngines.{kept_in}
use Rattle.reg_desk.proofs.ImportEngineLemmas.{plain_is}
use Rattle.reg_desk.proofs.import.engine.run_import.Goals as goal

pub returns-in-Err-make_ready-clause-fault : goal.returns-in-Err-make_ready-clause-fault
returns-in-Err-make_ready-clause-fault g c =
    let a = g.T.Store.admission c.args.store.now in
    let old = map g.F.Source.state c.args.files.now in
    let new = map g.F.Source.state c.make_ready.new.files in
    inr (inl (
      c.in-Ok.register,
      (c.in-Ok.ensures.came, refl),
      subst (λ (k : ℕ). IsUnreadyIn a c.args.options.now k c.in-Ok.register old new c.in-Err-make_ready.why) c.next-next.ensures
          (c.in-Err-make_ready.ensures.fault c.args.store.now c.load.ensures.same),
    ))

pub returns-in-Err-keep_and_tell-clause-fault : goal.returns-in-Err-keep_and_tell-clause-fault
returns-in-Err-keep_and_tell-clause-fault g c =
    let a = g.T.Store.admission c.args.store.now in
    let made = c.in-Ok-make_ready.ready in
    let old = map g.F.Source.state c.args.files.now in
    let new = map g.F.Source.state c.make_ready.new.files in
    let ready = subst (λ (k : ℕ). IsReadyIn a c.args.options.now k c.in-Ok.register old new made.register made.lines made.passed) c.next-next.ensures
    (c.in-Ok-make_ready.ensures.ready c.args.store.now c.load.ensures.same) in
    let before = g.K.Sink.state c.args.sink.now in
    let after = g.K.Sink.state c.keep_and_tell.new.sink in
    let around = g.T.Store.around c.args.store.now c.keep_and_tell.new.store in
    let w = kept_in around before after in
    let u = c.plain-in-Err-keep_and_tell in
    let f = c.in-Err-keep_and_tell.fault in
    let untold = c.in-Err-keep_and_tell.ensures.fault c.args.store.now c.in-Ok.register c.load.ensures.same c.in-Ok.ensures.came in
    inr (inr (c.in-Ok.register, made.register, made.lines, made.passed, ready, inr (plain_is (w.failed c.in-Ok.register made.register made.lines) u.result f u.ensures.fault u.ensures.notes untold)))

pub returns-in-Ok-answer-clause-imported : goal.returns-in-Ok-answer-clause-imported
returns-in-Ok-answer-clause-imported g c =
    let a = g.T.Store.admission c.args.store.now in
    let made = c.in-Ok-make_ready.ready in
    let old = map g.F.Source.state c.args.files.now in
    let new = map g.F.Source.state c.make_ready.new.files in
    let ready = subst (λ (k : ℕ). IsReadyIn a c.args.options.now k c.in-Ok.register old new made.register made.lines made.passed) c.next-next.ensures
    (c.in-Ok-make_ready.ensures.ready c.args.store.now c.load.ensures.same) in
    let before = g.K.Sink.state c.args.sink.now in
    let after = g.K.Sink.state c.keep_and_tell.new.sink in
    let around = g.T.Store.around c.args.store.now c.keep_and_tell.new.store in
    let told = c.in_default.ensures.told c.args.store.now c.in-Ok.register c.load.ensures.same c.in-Ok.ensures.came in (
      c.in-Ok.register,
      made.register,
      made.lines,
      subst (λ (p : Option Unimported). IsReadyIn a c.args.options.now (g.T.Store.next c.args.store.now) c.in-Ok.register old new made.register made.lines p) c.in-Ok-answer.ensures.done ready,
      told,
    )

pub returns-clause-fault : goal.returns-clause-fault
returns-clause-fault g c =
    let a = g.T.Store.admission c.args.store.now in
    let made = c.in-Ok-make_ready.ready in
    let old = map g.F.Source.state c.args.files.now in
    let new = map g.F.Source.state c.make_ready.new.files in
    let ready = subst (λ (k : ℕ). IsReadyIn a c.args.options.now k c.in-Ok.register old new made.register made.lines made.passed) c.next-next.ensures
    (c.in-Ok-make_ready.ensures.ready c.args.store.now c.load.ensures.same) in
    let before = g.K.Sink.state c.args.sink.now in
    let after = g.K.Sink.state c.keep_and_tell.new.sink in
    let around = g.T.Store.around c.args.store.now c.keep_and_tell.new.store in
    let told = c.in_default.ensures.told c.args.store.now c.in-Ok.register c.load.ensures.same c.in-Ok.ensures.came in
    inr (inr (c.in-Ok.register, made.register, made.lines, made.passed, ready, inl (c.in-Err-answer.ensures.passed, told)))
