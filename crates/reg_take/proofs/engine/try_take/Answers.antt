use Rattle.std.proofs.Common.{◌≡◌, ◌⊎◌, List, ℕ, false, map, refl, subst, inl, inr}
use Rattle.byte_io.specs.Whole.{WritesAll}
use Rattle.reg_engine.specs.Store.{AreCut}
use Rattle.reg_take.specs.declared.files.Arrival.{Arrival}
use Rattle.reg_take.specs.Files.{file_state}
use Rattle.reg_take.specs.Taken.{IsTakenFrom}
use Rattle.reg_take.specs.Take.{CannotJoin, MayLeave}
use Rattle.reg_take.specs.Engines.{IsUnfit, only_tried}
use Rattle.reg_take.proofs.EngineLemmas.{unloaded, same_or_fits, unfit_or_cut}
use Rattle.reg_take.proofs.engine.try_take.Goals as goal

pub returns-in-Err-clause-fault : goal.returns-in-Err-clause-fault
returns-in-Err-clause-fault g c =
    let a = g.T.Store.around c.args.store.now c.load_all.new.store in
    let s = g.K.Sink.state c.args.sink.now in
    unloaded (only_tried a s s) a (g.T.Store.admission c.args.store.now) c.args.options.now (g.T.Store.next c.args.store.now)
    (map (λ s. file_state (g.S.Source.state s) (g.S.LateSource.shut s)) c.args.files.now) (map (λ s. file_state (g.S.Source.state s) (g.S.LateSource.shut s)) c.load_all.new.files) c.in-Err.fault (λ f h. (h, refl)) (λ x h. (h, refl)) c.in-Err.ensures.fault

pub returns-in-Err-make_ready-clause-fault : goal.returns-in-Err-make_ready-clause-fault
returns-in-Err-make_ready-clause-fault g c =
    let l = c.in-Ok.loaded in
    inr (inr (inl (
      l.register,
      (c.in-Ok.ensures.loaded.0, refl),
      (
        l.base,
        l.arrivals.items,
        c.in-Ok.ensures.loaded.2,
        c.in-Ok.ensures.loaded.1,
        subst (λ (v : List Arrival). CannotJoin c.args.options.now.keep_going l.base v c.in-Err-make_ready.fault) c.deref.ensures.value c.in-Err-make_ready.ensures.fault,
      ),
    )))

pub returns-in-Ok-tell_fitting-clause-taken : goal.returns-in-Ok-tell_fitting-clause-taken
returns-in-Ok-tell_fitting-clause-taken g c =
    let l = c.in-Ok.loaded in
    let made = c.in-Ok-make_ready.ready in
    let takes = subst (λ (v : List Arrival). IsTakenFrom c.args.options.now.keep_going l.base v made.register made.left.items × MayLeave c.args.options.now.keep_going made.left.items)
    c.deref.ensures.value c.in-Ok-make_ready.ensures.taken in
    let all = subst (λ (t : List ℕ). WritesAll t (g.K.Sink.state c.args.sink.now) (g.K.Sink.state c.tell_fitting.new.sink)) c.deref-2.ensures.value c.in-Ok-tell_fitting.ensures.written in (
      l.base,
      made.lines.items,
      c.in-Ok.ensures.loaded.2,
      (l.arrivals.items, c.in-Ok.ensures.loaded.1, takes.0, takes.1),
      c.in-Ok-make_ready.ensures.lines,
      (c.in-Ok.ensures.loaded.0, same_or_fits l.register made.register made.is_same c.in-Ok-make_ready.ensures.same c.in-Ok-tell_fitting.ensures.fits, all),
      c.in-Ok.ensures.loaded.3,
      c.in-Ok.ensures.loaded.1,
    )

pub returns-in-Err-tell_fitting-clause-fault : goal.returns-in-Err-tell_fitting-clause-fault
returns-in-Err-tell_fitting-clause-fault g c =
    let l = c.in-Ok.loaded in
    let made = c.in-Ok-make_ready.ready in
    let takes = subst (λ (v : List Arrival). IsTakenFrom c.args.options.now.keep_going l.base v made.register made.left.items × MayLeave c.args.options.now.keep_going made.left.items)
    c.deref.ensures.value c.in-Ok-make_ready.ensures.taken in
    let before = g.K.Sink.state c.args.sink.now in
    let after = g.K.Sink.state c.tell_fitting.new.sink in
    let f = c.in-Err-tell_fitting.fault in
    let cut = subst (λ (t : List ℕ). ((made.is_same ≡ false) × IsUnfit made.register f × (after ≡ before)) ⊎ AreCut t before after f) c.deref-2.ensures.value c.in-Err-tell_fitting.ensures.fault in
    inr (inr (inr (
      l.register,
      (
        l.base,
        made.register,
        made.lines.items,
        made.left.items,
        c.in-Ok.ensures.loaded.2,
        (l.arrivals.items, c.in-Ok.ensures.loaded.1, takes.0, takes.1),
        c.in-Ok-make_ready.ensures.lines,
        (c.in-Ok.ensures.loaded.0, unfit_or_cut l.register made.register made.is_same made.lines.items before after f c.in-Ok-make_ready.ensures.same cut),
      ),
    )))
