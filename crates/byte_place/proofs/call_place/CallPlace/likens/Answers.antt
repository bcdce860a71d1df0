use Rattle.std.proofs.Common.{◌≡◌, ◌∷◌, refl, sym, rules}
use Rattle.std.proofs.Math.Logic.{∥∥₁_map}
use Rattle.byte_system.specs.System.{calls}
use Rattle.byte_place.specs.declared.progress.At.TheVariants as at
use Rattle.byte_system.specs.Disk.{Likens, Fails}
use Rattle.byte_place.proofs.Courses.{as_at, likened, gives_reserved}
use Rattle.byte_place.proofs.call_place.CallPlace.likens.Goals as goal

pub invariant_of-self : goal.invariant_of-self
invariant_of-self g c =
    let p = c.args.self.now in
    let i = c.in-Reserved.file in
    let old = calls (g.S.System.state p.system) in
    let new = calls (g.S.System.state c.make_alike.new.self) in
    let e : new ≡ Likens i p.out.items ∷ old = search rules in
    record { course = as_at p.out.items p.beside.items p.taken.bytes p.found.bytes p.unread (at.Reserved i) p.at new (sym c.in-Reserved.is) (∥∥₁_map (as_at p.out.items p.beside.items p.taken.bytes p.found.bytes p.unread p.at (at.Reserved i) old c.in-Reserved.is p.course) (λ k. likened p.out.items p.beside.items p.taken.bytes p.found.bytes p.unread i (Likens i p.out.items) old new (λ d m. refl) k e)) }

pub invariant_of-self-in-Err : goal.invariant_of-self-in-Err
invariant_of-self-in-Err g c =
    let p = c.args.self.now in
    let i = c.in-Reserved.file in
    let old = calls (g.S.System.state p.system) in
    let new = calls (g.S.System.state c.make_alike.new.self) in
    let e : new ≡ Fails ∷ old = search rules in
    record { course = ∥∥₁_map (as_at p.out.items p.beside.items p.taken.bytes p.found.bytes p.unread p.at (at.Reserved i) old c.in-Reserved.is p.course) (λ k. gives_reserved p.out.items p.beside.items p.taken.bytes p.found.bytes p.unread i new (likened p.out.items p.beside.items p.taken.bytes p.found.bytes p.unread i Fails old new (λ d m. refl) k e)) }
