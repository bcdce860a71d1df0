use Rattle.std.proofs.Common.{List, ℕ, map, subst}
use Rattle.std.specs.declared.vec.Vec.{Vec}
use Rattle.reg_engine.proofs.DriverLemmas.{works_on}
use Rattle.reg_desk.specs.ImportFiles.{bytes_of, AreUnread}
use Rattle.reg_desk.specs.Import.{Makes, IsUnmade, IsReady}
use Rattle.reg_desk.proofs.ImportEngineLemmas.{plain_is, unread_in, unmade_in, barred_in}
use Rattle.reg_desk.proofs.import.ready.make_ready.Goals as goal

pub returns-in-Err-clause-fault : goal.returns-in-Err-clause-fault
returns-in-Err-clause-fault g c = λ was same.
    let old = map g.F.Source.state c.args.files.now in
    let new = map g.F.Source.state c.read_files.new.files in
    let u = c.plain in
    unread_in c.args.options.now c.args.first c.args.loaded old new u.result (g.T.Store.admission was)
    (plain_is (AreUnread c.args.first old new) u.result c.in-Err.fault u.ensures.fault u.ensures.notes c.in-Err.ensures.fault)

pub returns-in-Err-admit-clause-fault : goal.returns-in-Err-admit-clause-fault
returns-in-Err-admit-clause-fault g c = λ was same.
    let old = map g.F.Source.state c.args.files.now in
    let new = map g.F.Source.state c.read_files.new.files in
    let u = c.plain-in-Err-admit in
    barred_in c.args.options.now c.args.first c.args.loaded old new u.result (g.T.Store.admission was)
    (bytes_of c.in-Ok.bytes.items) c.in-Ok.ensures.give c.in-Err-admit.fault u.ensures.fault u.ensures.notes (c.in-Err-admit.ensures.bars was same)

pub returns-in-Ok-made-clause-ready : goal.returns-in-Ok-made-clause-ready
returns-in-Ok-made-clause-ready g c = λ was same.
    let old = map g.F.Source.state c.args.files.now in
    let new = map g.F.Source.state c.read_files.new.files in
    let r = c.in-Ok-made.ready in
    let made = subst (λ (b : List (Vec ℕ _)). Makes c.args.options.now c.args.first c.in-Ok-admit.register (bytes_of b) r.register r.lines r.passed) c.deref.ensures.value c.in-Ok-made.ensures.made in
    works_on (g.T.Store.admission was) (λ z. IsReady c.args.options.now c.args.first z old new r.register r.lines r.passed) c.args.loaded c.in-Ok-admit.register
    (c.in-Ok-admit.ensures.admits was same) (bytes_of c.in-Ok.bytes.items, c.in-Ok.ensures.give, made)

pub returns-clause-fault : goal.returns-clause-fault
returns-clause-fault g c = λ was same.
    let old = map g.F.Source.state c.args.files.now in
    let new = map g.F.Source.state c.read_files.new.files in
    let u = c.in-Err-made.why in
    let unmade = subst (λ (b : List (Vec ℕ _)). IsUnmade c.args.options.now c.args.first c.in-Ok-admit.register (bytes_of b) u) c.deref.ensures.value c.in-Err-made.ensures.fault in
    unmade_in c.args.options.now c.args.first c.args.loaded old new u (g.T.Store.admission was) c.in-Ok-admit.register (bytes_of c.in-Ok.bytes.items) c.in-Ok.ensures.give
    (c.in-Ok-admit.ensures.admits was same) unmade
