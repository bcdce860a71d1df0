use Rattle.std.proofs.Common.{List, ℕ, subst}
use Rattle.reg_engine.specs.Shelf.{disks}
use Rattle.reg_desk.specs.Look.{IsRegisterLook}
use Rattle.reg_desk.proofs.LookLemmas.{shelf_looked, not_shelf_looked}
use Rattle.reg_desk.proofs.look.look_on.Goals as goal

pub returns-in-Ok-register_look-clause-look : goal.returns-in-Ok-register_look-clause-look
returns-in-Ok-register_look-clause-look g c =
    let d = disks g.D.Disk.tells g.D.Disk.seen g.D.Disk.images g.D.Disk.moment g.D.Disk.images_since g.D.Disk.failures in
    shelf_looked d c.args.disk.now c.restore.new.disk c.in-Ok.bytes.items c.in-Ok-register_look.look c.in-Ok.ensures.found (record { quiet = c.in-Ok.ensures.counts; nothing = c.in-Ok.ensures.nothing })
    (subst (λ (b : List ℕ). IsRegisterLook b c.in-Ok-register_look.look) c.deref.ensures.value c.in-Ok-register_look.ensures)

pub returns-in-Err-NotShelf-clause-look : goal.returns-in-Err-NotShelf-clause-look
returns-in-Err-NotShelf-clause-look g c =
    let d = disks g.D.Disk.tells g.D.Disk.seen g.D.Disk.images g.D.Disk.moment g.D.Disk.images_since g.D.Disk.failures in
    let is = c.in-Err-NotShelf.ensures in
    not_shelf_looked d c.args.disk.now c.restore.new.disk c.in-Err-NotShelf.field-0 c.in-Err-NotShelf.field-0-is is.counts is.not_shelf is.nothing
