use Rattle.std.proofs.Common.{◌≡◌, length, sym, subst, rules}
use Rattle.reg_engine.specs.declared.fault.CliFault.{CliFault}
use Rattle.reg_engine.specs.Shelf.{disks}
use Rattle.reg_desk.specs.ImportRoom.{room_on_shelf}
use Rattle.reg_desk.proofs.RoomLemmas.{room, full}
use Rattle.reg_desk.proofs.import.room.shelf_room.Goals as goal

pub returns-in-Ok-room_for-clause-fits : goal.returns-in-Ok-room_for-clause-fits
returns-in-Ok-room_for-clause-fits g c = λ first was same came.
    let d = disks g.D.Disk.tells g.D.Disk.seen g.D.Disk.images g.D.Disk.moment g.D.Disk.images_since g.D.Disk.failures in
    let long : c.len.result ≡ length c.in-Ok.bytes.items = search rules in
    room d first c.args.disk.now same was c.args.register.now came c.room_for.new.disk c.room_for.ensures.tells c.in-Ok.bytes.items c.len.result long c.in-Ok.ensures.held
    c.room_for.ensures.nothing c.in-Ok-room_for.ensures.counts c.in-Ok-room_for.ensures.room

pub returns-clause-full : goal.returns-clause-full
returns-clause-full g c = λ first was same came.
    let d = disks g.D.Disk.tells g.D.Disk.seen g.D.Disk.images g.D.Disk.moment g.D.Disk.images_since g.D.Disk.failures in
    let long : c.len.result ≡ length c.in-Ok.bytes.items = search rules in
    subst (λ (f : CliFault). (room_on_shelf d first c.room_for.new.disk).full was c.args.register.now f) (sym c.of_shelf.ensures)
    (full d first c.args.disk.now same was c.args.register.now came c.room_for.new.disk c.room_for.ensures.tells c.in-Ok.bytes.items c.len.result long c.in-Ok.ensures.held
    c.room_for.ensures.nothing c.in-Err-room_for.fault c.in-Err-room_for.ensures.faults c.in-Err-room_for.ensures.counts c.in-Err-room_for.ensures.short c.in-Err-room_for.ensures.large)
