use Rattle.std.proofs.Common.{sym, subst}
use Rattle.reg_engine.specs.Shelf.{disks, IsUnready}
use Rattle.reg_engine.proofs.ShelfLemmas.{unready}
use Rattle.reg_engine.proofs.shelf_steps.ready_on.Goals as goal

pub returns-in-Err-clause-fault : goal.returns-in-Err-clause-fault
returns-in-Err-clause-fault g c = λ was has.
    let d = disks g.D.Disk.tells g.D.Disk.seen g.D.Disk.images g.D.Disk.moment g.D.Disk.images_since g.D.Disk.failures in
    subst (IsUnready d c.args.register.now c.args.disk.now c.ready.new.disk) (sym c.of_shelf.ensures)
    (unready d c.args.disk.now c.ready.new.disk was c.args.register.now c.in-Err.fault has c.in-Err.ensures.bad_size c.in-Err.ensures.counts c.in-Err.ensures.not_shelf c.in-Err.ensures.too_large c.in-Err.ensures.nothing)
