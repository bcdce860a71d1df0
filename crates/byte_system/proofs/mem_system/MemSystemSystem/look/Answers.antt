use Rattle.byte_system.specs.System.{look_call}
use Rattle.byte_system.proofs.Took.{took_at}
use Rattle.byte_system.proofs.Props.{honest}
use Rattle.byte_system.proofs.mem_system.MemSystemSystem.look.Goals as goal

pub returns : goal.returns
returns c =
    let old = c.args.self.now in
    let mid = c.works-works.new.self in
    let new = c.look.new.self in
    took_at old.me mid.me (look_call c.args.path.now c.look.result) old.files.trail.events mid.files.trail.events new.trail.events
    c.works-works.ensures.0 c.works-works.ensures.1 c.look.ensures (honest new.names.items new.held.items new.locks.items new.count new.trail.events new.shows)
