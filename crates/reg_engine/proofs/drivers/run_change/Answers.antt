use Rattle.std.proofs.Common.{List, ℕ, refl, inl, inr, subst}
use Rattle.reg_op.specs.Contents.{Content}
use Rattle.reg_engine.specs.Store.{IsTold, IsUntold, MakesIn, StopsIn}
use Rattle.reg_engine.proofs.DriverLemmas.{works_on, unmet_in, barred_in, refused_in}
use Rattle.reg_engine.proofs.drivers.run_change.Goals as goal

pub returns-in-Err-read-clause-fault : goal.returns-in-Err-read-clause-fault
returns-in-Err-read-clause-fault g c =
    let a = g.T.Store.admission c.args.store.now in
    let old = c.args.command.now in
    let new = c.read.new.self in
    let x = c.in-Ok.loaded in
    let f = c.in-Err-read.fault in
    let n = c.next-next.result in
    let stops = subst (λ (k : ℕ). StopsIn a (g.C.Change.unmet old new k) (λ w. (r : g.row.C-Read.Denot) × g.C.Change.reads old new k w r) (g.C.Change.refuses old new k) x f) c.next-next.ensures
    (unmet_in (g.C.Change.unmet old new n) (λ w. (r : g.row.C-Read.Denot) × g.C.Change.reads old new n w r) (g.C.Change.refuses old new n) x f a (g.met.C.Change.stops old new n x x f) c.in-Err-read.ensures.unmet) in
    inr (inl (x, c.in-Ok.ensures.came, stops, refl))

pub returns-in-Err-admit-clause-fault : goal.returns-in-Err-admit-clause-fault
returns-in-Err-admit-clause-fault g c =
    let a = g.T.Store.admission c.args.store.now in
    let old = c.args.command.now in
    let new = c.read.new.self in
    let x = c.in-Ok.loaded in
    let f = c.in-Err-admit.fault in
    let n = c.next-next.result in
    let bars = c.in-Err-admit.ensures.bars c.args.store.now c.load.ensures.same in
    let stops = subst (λ (k : ℕ). StopsIn a (g.C.Change.unmet old new k) (λ w. (r : g.row.C-Read.Denot) × g.C.Change.reads old new k w r) (g.C.Change.refuses old new k) x f) c.next-next.ensures
    (barred_in (g.C.Change.unmet old new n) (λ w. (r : g.row.C-Read.Denot) × g.C.Change.reads old new n w r) (g.C.Change.refuses old new n) x f a (c.in-Ok-read.read, c.in-Ok-read.ensures.reads) bars) in
    inr (inl (x, c.in-Ok.ensures.came, stops, refl))

pub returns-in-Err-make-clause-fault : goal.returns-in-Err-make-clause-fault
returns-in-Err-make-clause-fault g c =
    let a = g.T.Store.admission c.args.store.now in
    let old = c.args.command.now in
    let new = c.make.new.self in
    let x = c.in-Ok.loaded in
    let z = c.in-Ok-admit.admitted in
    let f = c.in-Err-make.fault in
    let n = c.next-next.result in
    let admits = c.in-Ok-admit.ensures.admits c.args.store.now c.load.ensures.same in
    let refuses = c.in-Err-make.ensures.refuses old x c.in-Ok-read.ensures.reads in
    let stops = subst (λ (k : ℕ). StopsIn a (g.C.Change.unmet old new k) (λ w. (r : g.row.C-Read.Denot) × g.C.Change.reads old new k w r) (g.C.Change.refuses old new k) x f) c.next-next.ensures
    (refused_in (g.C.Change.unmet old new n) (λ w. (r : g.row.C-Read.Denot) × g.C.Change.reads old new n w r) (g.C.Change.refuses old new n) x f a z admits refuses) in
    inr (inl (x, c.in-Ok.ensures.came, stops, refl))

pub returns-in-Ok-keep_and_tell-clause-changed : goal.returns-in-Ok-keep_and_tell-clause-changed
returns-in-Ok-keep_and_tell-clause-changed g c =
    let a = g.T.Store.admission c.args.store.now in
    let old = c.args.command.now in
    let new = c.make.new.self in
    let x = c.in-Ok.loaded in
    let z = c.in-Ok-admit.admitted in
    let made = c.in-Ok-make.made in
    let n = c.next-next.result in
    let admits = c.in-Ok-admit.ensures.admits c.args.store.now c.load.ensures.same in
    let makes = subst (λ (k : ℕ). MakesIn a (g.C.Change.makes old new k) x made.register made.lines.items) c.next-next.ensures
    (works_on a (λ (w : Content). g.C.Change.makes old new n x w made.register made.lines.items) x z admits (c.in-Ok-make.ensures.makes old x c.in-Ok-read.ensures.reads)) in
    let around = g.T.Store.around c.args.store.now c.keep_and_tell.new.store in
    let told = subst (λ (l : List ℕ). IsTold around x made.register l (g.K.Sink.state c.args.sink.now) (g.K.Sink.state c.keep_and_tell.new.sink)) c.deref.ensures.value
    (c.in-Ok-keep_and_tell.ensures.told c.args.store.now x c.load.ensures.same c.in-Ok.ensures.came) in
    (x, made.register, made.lines.items, makes, told.0, told.1)

pub returns-clause-fault : goal.returns-clause-fault
returns-clause-fault g c =
    let a = g.T.Store.admission c.args.store.now in
    let old = c.args.command.now in
    let new = c.make.new.self in
    let x = c.in-Ok.loaded in
    let z = c.in-Ok-admit.admitted in
    let made = c.in-Ok-make.made in
    let f = c.in-Err-keep_and_tell.fault in
    let n = c.next-next.result in
    let admits = c.in-Ok-admit.ensures.admits c.args.store.now c.load.ensures.same in
    let makes = subst (λ (k : ℕ). MakesIn a (g.C.Change.makes old new k) x made.register made.lines.items) c.next-next.ensures
    (works_on a (λ (w : Content). g.C.Change.makes old new n x w made.register made.lines.items) x z admits (c.in-Ok-make.ensures.makes old x c.in-Ok-read.ensures.reads)) in
    let around = g.T.Store.around c.args.store.now c.keep_and_tell.new.store in
    let untold = subst (λ (l : List ℕ). IsUntold around x made.register l (g.K.Sink.state c.args.sink.now) (g.K.Sink.state c.keep_and_tell.new.sink) f) c.deref.ensures.value
    (c.in-Err-keep_and_tell.ensures.fault c.args.store.now x c.load.ensures.same c.in-Ok.ensures.came) in
    inr (inr (x, made.register, made.lines.items, makes, untold))
