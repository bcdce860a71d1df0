use Rattle.reg_engine.specs.Shelf.{disks}
use Rattle.reg_engine.proofs.ShelfLemmas.{kept_then, unkept_then}
use Rattle.reg_engine.proofs.store.OnShelfKeep.keep.Goals as goal

pub returns-in-Ok-clause-left : goal.returns-in-Ok-clause-left
returns-in-Ok-clause-left g c = λ first was same came.
    let d = disks g.D.Disk.tells g.D.Disk.seen g.D.Disk.images g.D.Disk.moment g.D.Disk.images_since g.D.Disk.failures in
    (came.0, kept_then d first.disk.now c.args.self.now.disk.now c.keep_on.new.disk same.1 came.1 came.2 was came.0 c.args.register.now c.in-Ok.ensures.kept)

pub returns-in-Err-clause-unleft : goal.returns-in-Err-clause-unleft
returns-in-Err-clause-unleft g c = λ first was same came.
    let d = disks g.D.Disk.tells g.D.Disk.seen g.D.Disk.images g.D.Disk.moment g.D.Disk.images_since g.D.Disk.failures in
    (came.0, unkept_then d first.disk.now c.args.self.now.disk.now c.keep_on.new.disk same.1 came.1 came.2 was came.0 c.args.register.now c.in-Err.fault c.in-Err.ensures.fault)
