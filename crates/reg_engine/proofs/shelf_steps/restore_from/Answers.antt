use Rattle.std.proofs.Common.{sym, subst}
use Rattle.reg_engine.specs.Shelf.{disks, IsUnrestored}
use Rattle.reg_engine.proofs.ShelfLemmas.{unrestored}
use Rattle.reg_engine.proofs.shelf_steps.restore_from.Goals as goal

pub returns-in-Err-clause-fault : goal.returns-in-Err-clause-fault
returns-in-Err-clause-fault g c =
    let d = disks g.D.Disk.tells g.D.Disk.seen g.D.Disk.images g.D.Disk.moment g.D.Disk.images_since g.D.Disk.failures in
    subst (IsUnrestored d c.args.disk.now c.restore.new.disk) (sym c.of_shelf.ensures)
    (unrestored d c.args.disk.now c.restore.new.disk c.in-Err.fault c.in-Err.ensures.faults c.in-Err.ensures.counts c.in-Err.ensures.not_shelf c.in-Err.ensures.nothing)
