use Rattle.std.proofs.Math.Logic.{∥∥₁_map}
use Rattle.byte_system.specs.System.{calls}
use Rattle.byte_place.specs.declared.progress.At.TheVariants as at
use Rattle.byte_place.proofs.Courses.{as_at, gives_reserved}
use Rattle.byte_place.proofs.call_place.CallPlace.release.Goals as goal

pub invariant_of-self : goal.invariant_of-self
invariant_of-self g c =
    let p = c.args.self.now in
    let i = c.in-Reserved.file in
    let old = calls (g.S.System.state p.system) in
    record { course = ∥∥₁_map (as_at p.out.items p.beside.items p.taken.bytes p.found.bytes p.unread p.at (at.Reserved i) old c.in-Reserved.is p.course) (λ k. gives_reserved p.out.items p.beside.items p.taken.bytes p.found.bytes p.unread i old k) }
