use Rattle.std.proofs.Common.{rules}
use Rattle.std.proofs.Math.Logic.{∥∥₁_map}
use Rattle.byte_system.specs.System.{calls}
use Rattle.byte_place.specs.Steps.{Clears}
use Rattle.byte_place.specs.declared.progress.At.TheVariants as at
use Rattle.byte_place.proofs.Courses.{as_at, cleared}
use Rattle.byte_place.proofs.call_place.CallPlace.clear.Goals as goal

pub invariant_of-self : goal.invariant_of-self
invariant_of-self g c =
    let p = c.args.self.now in
    let i = c.in-Broken.file in
    let old = calls (g.S.System.state p.system) in
    let new = calls (g.S.System.state c.remove_own.new.system) in
    let r : Clears p.beside.items i old new = search rules in
    record { course = ∥∥₁_map (as_at p.out.items p.beside.items p.taken.bytes p.found.bytes p.unread p.at (at.Broken i) old c.in-Broken.is p.course) (λ k. cleared p.out.items p.beside.items p.taken.bytes p.found.bytes p.unread i old new k r) }
