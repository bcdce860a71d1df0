use Rattle.std.proofs.Common.{sym, subst}
use Rattle.reg_engine.specs.Shelf.{disks, IsUnput}
use Rattle.reg_engine.proofs.ShelfLemmas.{unput, puts_on}
use Rattle.reg_engine.proofs.shelf_steps.put_on.Goals as goal

pub returns-in-Ok-clause-kept : goal.returns-in-Ok-clause-kept
returns-in-Ok-clause-kept g c = λ was next has sure ready.
    let d = disks g.D.Disk.tells g.D.Disk.seen g.D.Disk.images g.D.Disk.moment g.D.Disk.images_since g.D.Disk.failures in
    puts_on d c.args.disk.now c.put.new.disk was next c.args.frame.now has sure ready c.in-Ok.ensures.tells c.in-Ok.ensures.counts c.in-Ok.ensures.size_stays c.in-Ok.ensures.kept c.in-Ok.ensures.sized

pub returns-in-Err-clause-fault : goal.returns-in-Err-clause-fault
returns-in-Err-clause-fault g c = λ was next has sure ready.
    let d = disks g.D.Disk.tells g.D.Disk.seen g.D.Disk.images g.D.Disk.moment g.D.Disk.images_since g.D.Disk.failures in
    subst (IsUnput d was next c.args.disk.now c.put.new.disk) (sym c.of_shelf.ensures)
    (unput d c.args.disk.now c.put.new.disk was next c.args.frame.now c.in-Err.fault sure ready c.in-Err.ensures.faults c.in-Err.ensures.counts c.in-Err.ensures.size_stays)
