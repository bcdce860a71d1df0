use Rattle.std.proofs.Common.{◌≡◌, ◌∷◌, true, false, refl, rules}
use Rattle.std.proofs.Math.Logic.{∥∥₁_map}
use Rattle.byte_system.specs.Disk.{Compares, Fails}
use Rattle.byte_system.specs.System.{calls}
use Rattle.byte_place.specs.declared.progress.At.TheVariants as at
use Rattle.byte_place.proofs.Courses.{as_at, compared, changed}
use Rattle.byte_place.proofs.call_place.CallPlacePlace.compare.Goals as goal

pub invariant_of-self : goal.invariant_of-self
invariant_of-self g c =
    let p = c.args.self.now in
    let i = c.in-Synced.file in
    let old = calls (g.S.System.state p.system) in
    let new = calls (g.S.System.state c.has.new.self) in
    let e : new ≡ Compares p.out.items c.args.read.now true ∷ old = search rules in
    let w : c.note.new.self.bytes ≡ c.args.read.now = search rules in
    record { course = ∥∥₁_map (as_at p.out.items p.beside.items p.taken.bytes p.found.bytes p.unread p.at (at.Synced i) old c.in-Synced.is p.course) (λ k. compared p.out.items p.beside.items p.taken.bytes p.found.bytes c.args.read.now c.note.new.self.bytes p.unread i old new k e w) }

pub invariant_of-self-in-Ok-false : goal.invariant_of-self-in-Ok-false
invariant_of-self-in-Ok-false g c =
    let p = c.args.self.now in
    let i = c.in-Synced.file in
    let old = calls (g.S.System.state p.system) in
    let new = calls (g.S.System.state c.has.new.self) in
    let e : new ≡ Compares p.out.items c.args.read.now false ∷ old = search rules in
    record { course = ∥∥₁_map (as_at p.out.items p.beside.items p.taken.bytes p.found.bytes p.unread p.at (at.Synced i) old c.in-Synced.is p.course) (λ k. changed p.out.items p.beside.items p.taken.bytes p.found.bytes p.unread i (Compares p.out.items c.args.read.now false) old new (λ d m. refl) k e) }

pub invariant_of-self-in-Err-NotOpened : goal.invariant_of-self-in-Err-NotOpened
invariant_of-self-in-Err-NotOpened g c =
    let p = c.args.self.now in
    let i = c.in-Synced.file in
    let old = calls (g.S.System.state p.system) in
    let new = calls (g.S.System.state c.has.new.self) in
    let e : new ≡ Fails ∷ old = search rules in
    record { course = ∥∥₁_map (as_at p.out.items p.beside.items p.taken.bytes p.found.bytes p.unread p.at (at.Synced i) old c.in-Synced.is p.course) (λ k. changed p.out.items p.beside.items p.taken.bytes p.found.bytes p.unread i Fails old new (λ d m. refl) k e) }

pub invariant_of-self-in-Err-Cut : goal.invariant_of-self-in-Err-Cut
invariant_of-self-in-Err-Cut g c =
    let p = c.args.self.now in
    let i = c.in-Synced.file in
    let old = calls (g.S.System.state p.system) in
    let new = calls (g.S.System.state c.has.new.self) in
    let e : new ≡ Fails ∷ old = search rules in
    record { course = ∥∥₁_map (as_at p.out.items p.beside.items p.taken.bytes p.found.bytes p.unread p.at (at.Synced i) old c.in-Synced.is p.course) (λ k. changed p.out.items p.beside.items p.taken.bytes p.found.bytes p.unread i Fails old new (λ d m. refl) k e) }
