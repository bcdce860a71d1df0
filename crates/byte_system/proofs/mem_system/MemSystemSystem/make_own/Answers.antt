use Rattle.byte_system.specs.System.{make_call}
use Rattle.byte_system.proofs.Took.{took_at}
use Rattle.byte_system.proofs.Props.{honest}
use Rattle.byte_system.proofs.mem_system.MemSystemSystem.make_own.Goals as goal

pub returns : goal.returns
returns c =
    let old = c.args.self.now in
    let mid = c.works-works.new.self in
    let new = c.make.new.self in
    took_at old.me mid.me (make_call c.args.path.now c.make.result) old.files.trail.events mid.files.trail.events new.trail.events
    c.works-works.ensures.0 c.works-works.ensures.1 c.make.ensures (honest new.names.items new.held.items new.locks.items new.count new.trail.events new.shows)
