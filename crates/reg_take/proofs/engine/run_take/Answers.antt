use Rattle.std.proofs.Common.{List, ℕ, map, refl, subst, inl, inr}
use Rattle.reg_take.specs.declared.files.Arrival.{Arrival}
use Rattle.reg_take.specs.Files.{file_state}
use Rattle.reg_take.specs.Taken.{IsTakenFrom}
use Rattle.reg_take.specs.Take.{CannotJoin, MayLeave}
use Rattle.reg_take.specs.Engines.{kept_if_changed}
use Rattle.reg_take.proofs.EngineLemmas.{unloaded}
use Rattle.reg_take.proofs.engine.run_take.Goals as goal

pub returns-in-Err-clause-fault : goal.returns-in-Err-clause-fault
returns-in-Err-clause-fault g c =
    let a = g.T.Store.around c.args.store.now c.load_all.new.store in
    let s = g.K.Sink.state c.args.sink.now in
    unloaded (kept_if_changed a s s) a (g.T.Store.admission c.args.store.now) c.args.options.now (g.T.Store.next c.args.store.now)
    (map (λ s. file_state (g.S.Source.state s) (g.S.LateSource.shut s)) c.args.files.now) (map (λ s. file_state (g.S.Source.state s) (g.S.LateSource.shut s)) c.load_all.new.files) c.in-Err.fault (λ f h. (h, refl)) (λ x h. (h, refl)) c.in-Err.ensures.fault

pub returns-in-Err-make_ready-clause-fault : goal.returns-in-Err-make_ready-clause-fault
returns-in-Err-make_ready-clause-fault g c =
    let l = c.in-Ok.loaded in
    inr (inr (inl (
      l.register,
      (c.in-Ok.ensures.loaded.0, refl),
      (
        l.base,
        l.arrivals.items,
        c.in-Ok.ensures.loaded.2,
        c.in-Ok.ensures.loaded.1,
        subst (λ (v : List Arrival). CannotJoin c.args.options.now.keep_going l.base v c.in-Err-make_ready.fault) c.deref.ensures.value c.in-Err-make_ready.ensures.fault,
      ),
    )))

pub returns-in-Ok-keep_changed-clause-taken : goal.returns-in-Ok-keep_changed-clause-taken
returns-in-Ok-keep_changed-clause-taken g c =
    let l = c.in-Ok.loaded in
    let made = c.in-Ok-make_ready.ready in
    let takes = subst (λ (v : List Arrival). IsTakenFrom c.args.options.now.keep_going l.base v made.register made.left.items × MayLeave c.args.options.now.keep_going made.left.items)
    c.deref.ensures.value c.in-Ok-make_ready.ensures.taken in
    let w = kept_if_changed (g.T.Store.around c.args.store.now c.keep_changed.new.store) (g.K.Sink.state c.args.sink.now) (g.K.Sink.state c.keep_changed.new.sink) in
    let gave = c.in-Ok-keep_changed.ensures.gave c.args.store.now l.register c.load_all.ensures.same c.in-Ok.ensures.loaded.0 c.in-Ok-make_ready.ensures.same in (
      l.base,
      made.lines.items,
      c.in-Ok.ensures.loaded.2,
      (l.arrivals.items, c.in-Ok.ensures.loaded.1, takes.0, takes.1),
      c.in-Ok-make_ready.ensures.lines,
      subst (λ (t : List ℕ). w.gave l.register made.register t) c.deref-2.ensures.value gave,
      c.in-Ok.ensures.loaded.3,
      c.in-Ok.ensures.loaded.1,
    )

pub returns-in-Err-keep_changed-clause-fault : goal.returns-in-Err-keep_changed-clause-fault
returns-in-Err-keep_changed-clause-fault g c =
    let l = c.in-Ok.loaded in
    let made = c.in-Ok-make_ready.ready in
    let takes = subst (λ (v : List Arrival). IsTakenFrom c.args.options.now.keep_going l.base v made.register made.left.items × MayLeave c.args.options.now.keep_going made.left.items)
    c.deref.ensures.value c.in-Ok-make_ready.ensures.taken in
    let f = c.in-Err-keep_changed.fault in
    let w = kept_if_changed (g.T.Store.around c.args.store.now c.keep_changed.new.store) (g.K.Sink.state c.args.sink.now) (g.K.Sink.state c.keep_changed.new.sink) in
    let failed = c.in-Err-keep_changed.ensures.failed c.args.store.now l.register c.load_all.ensures.same c.in-Ok.ensures.loaded.0 c.in-Ok-make_ready.ensures.same in
    inr (inr (inr (
      l.register,
      (
        l.base,
        made.register,
        made.lines.items,
        made.left.items,
        c.in-Ok.ensures.loaded.2,
        (l.arrivals.items, c.in-Ok.ensures.loaded.1, takes.0, takes.1),
        c.in-Ok-make_ready.ensures.lines,
        subst (λ (t : List ℕ). w.failed l.register made.register t f) c.deref-2.ensures.value failed,
      ),
    )))
