use Rattle.std.proofs.Common.{refl, sym, subst}
use Rattle.reg_engine.specs.Shelf.{disks, IsUnkept}
use Rattle.reg_engine.proofs.ShelfLemmas.{unkept, passes_on, keeps_on}
use Rattle.reg_engine.proofs.shelf_steps.keep_on.Goals as goal

pub returns-in-Ok-clause-kept : goal.returns-in-Ok-clause-kept
returns-in-Ok-clause-kept g c = λ was has sure.
    let d = disks g.D.Disk.tells g.D.Disk.seen g.D.Disk.images g.D.Disk.moment g.D.Disk.images_since g.D.Disk.failures in
    keeps_on d c.args.disk.now c.keep.new.disk was c.args.register.now has sure c.in-Ok.ensures.tells c.in-Ok.ensures.counts c.in-Ok.ensures.file c.in-Ok.ensures.kept
    (λ told size. c.in-Ok.ensures.sized told was size)
    (passes_on d c.args.disk.now c.keep.new.disk was c.args.register.now sure c.in-Ok.ensures.size_stays)

pub returns-in-Err-clause-fault : goal.returns-in-Err-clause-fault
returns-in-Err-clause-fault g c = λ was has sure.
    let d = disks g.D.Disk.tells g.D.Disk.seen g.D.Disk.images g.D.Disk.moment g.D.Disk.images_since g.D.Disk.failures in
    let refused = c.in-Err.ensures.refused in
    subst (IsUnkept d was c.args.register.now c.args.disk.now c.keep.new.disk) (sym c.of_shelf.ensures)
    (unkept d c.args.disk.now c.keep.new.disk was c.args.register.now c.in-Err.fault has c.in-Err.ensures.bad_size c.in-Err.ensures.counts c.in-Err.ensures.not_shelf c.in-Err.ensures.too_large
    (λ told quiet. refused told quiet refl) (passes_on d c.args.disk.now c.keep.new.disk was c.args.register.now sure c.in-Err.ensures.size_stays))
