use Rattle.byte_system.specs.System.{open_call}
use Rattle.byte_system.proofs.Took.{took_at}
use Rattle.byte_system.proofs.Props.{honest}
use Rattle.byte_system.proofs.mem_system.MemSystemSystem.open_left.Goals as goal

pub returns : goal.returns
returns c =
    let old = c.args.self.now in
    let mid = c.works-works.new.self in
    let new = c.open.new.self in
    took_at old.me mid.me (open_call c.args.path.now c.open.result) old.files.trail.events mid.files.trail.events new.trail.events
    c.works-works.ensures.0 c.works-works.ensures.1 c.open.ensures (honest new.names.items new.held.items new.locks.items new.count new.trail.events new.shows)
