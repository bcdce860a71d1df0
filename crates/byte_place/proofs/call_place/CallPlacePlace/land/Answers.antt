use Rattle.std.proofs.Common.{◌≡◌, ◌∷◌, inl, inr, refl, rules}
use Rattle.std.proofs.Math.Logic.{∥∥₁_map}
use Rattle.byte_system.specs.Disk.{SyncsFolder, Fails}
use Rattle.byte_system.specs.System.{calls}
use Rattle.byte_place.specs.declared.progress.At.TheVariants as at
use Rattle.byte_place.proofs.Courses.{as_at, landed, not_landed}
use Rattle.byte_place.proofs.call_place.CallPlacePlace.land.Goals as goal

pub invariant_of-self-in-Ok : goal.invariant_of-self-in-Ok
invariant_of-self-in-Ok g c =
    let p = c.args.self.now in
    let old = calls (g.S.System.state p.system) in
    let new = calls (g.S.System.state c.sync_folder.new.self) in
    let e : new ≡ SyncsFolder p.out.items ∷ old = search rules in
    record { course = ∥∥₁_map (as_at p.out.items p.beside.items p.taken.bytes p.found.bytes p.unread p.at at.Put old c.in-Put.is p.course) (λ k. landed p.out.items p.beside.items p.taken.bytes p.found.bytes p.unread (SyncsFolder p.out.items) old new (λ d m. refl) (inl refl) k e) }

pub invariant_of-self-in-Err-Forbidden : goal.invariant_of-self-in-Err-Forbidden
invariant_of-self-in-Err-Forbidden g c =
    let p = c.args.self.now in
    let old = calls (g.S.System.state p.system) in
    let new = calls (g.S.System.state c.sync_folder.new.self) in
    let e : new ≡ Fails ∷ old = search rules in
    record { course = ∥∥₁_map (as_at p.out.items p.beside.items p.taken.bytes p.found.bytes p.unread p.at at.Put old c.in-Put.is p.course) (λ k. landed p.out.items p.beside.items p.taken.bytes p.found.bytes p.unread Fails old new (λ d m. refl) (inr refl) k e) }

pub invariant_of-self-in-Err : goal.invariant_of-self-in-Err
invariant_of-self-in-Err g c =
    let p = c.args.self.now in
    let old = calls (g.S.System.state p.system) in
    let new = calls (g.S.System.state c.sync_folder.new.self) in
    let e : new ≡ Fails ∷ old = search rules in
    record { course = ∥∥₁_map (as_at p.out.items p.beside.items p.taken.bytes p.found.bytes p.unread p.at at.Put old c.in-Put.is p.course) (λ k. not_landed p.out.items p.beside.items p.taken.bytes p.found.bytes p.unread old new k e) }
