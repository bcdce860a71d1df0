use Rattle.byte_system.specs.Disk.{Likens}
use Rattle.byte_system.specs.System.{done_or_failed}
use Rattle.byte_system.proofs.Took.{took_at}
use Rattle.byte_system.proofs.Props.{honest}
use Rattle.byte_system.proofs.mem_system.MemSystemSystem.make_alike.Goals as goal

pub returns : goal.returns
returns c =
    let old = c.args.self.now in
    let mid = c.works-works.new.self in
    let new = c.make_alike.new.self in
    took_at old.me mid.me (done_or_failed (Likens c.args.file c.args.path.now) c.make_alike.result) old.files.trail.events mid.files.trail.events new.trail.events
    c.works-works.ensures.0 c.works-works.ensures.1 c.make_alike.ensures (honest new.names.items new.held.items new.locks.items new.count new.trail.events new.shows)
