use Rattle.std.proofs.Common.{◌≡◌, ◌∷◌, [], take, ap, ◌∙◌, rules}
use Rattle.std.proofs.Math.Logic.{∥∥₁_map}
use Rattle.std.proofs.Math.Seq.{take-nil}
use Rattle.byte_system.specs.Disk.{Syncs, Writes, Fails}
use Rattle.byte_system.specs.System.{calls}
use Rattle.byte_place.specs.declared.progress.At.TheVariants as at
use Rattle.byte_place.proofs.Courses.{as_at, synced, unsynced}
use Rattle.byte_place.proofs.call_place.CallPlacePlace.sync.Goals as goal

pub invariant_of-self-then-is_err : goal.invariant_of-self-then-is_err
invariant_of-self-then-is_err g c =
    let p = c.args.self.now in
    let i = c.in-Owned.file in
    let old = calls (g.S.System.state p.system) in
    let mid = calls (g.S.System.state c.write.new.self) in
    let new = calls (g.S.System.state c.sync.new.self) in
    let part : mid ≡ Writes i (take c.write.result []) ∷ old = search rules in
    let w : mid ≡ Writes i [] ∷ old = part ∙ ap (λ b. Writes i b ∷ old) (take-nil c.write.result) in
    let e : new ≡ Fails ∷ mid = search rules in
    record { course = ∥∥₁_map (as_at p.out.items p.beside.items p.taken.bytes p.found.bytes p.unread p.at (at.Owned i) old c.in-Owned.is p.course) (λ k. unsynced p.out.items p.beside.items p.taken.bytes p.found.bytes p.unread i old mid new k w e) }

pub invariant_of-self-2 : goal.invariant_of-self-2
invariant_of-self-2 g c =
    let p = c.args.self.now in
    let i = c.in-Owned.file in
    let old = calls (g.S.System.state p.system) in
    let mid = calls (g.S.System.state c.write.new.self) in
    let new = calls (g.S.System.state c.sync.new.self) in
    let part : mid ≡ Writes i (take c.write.result []) ∷ old = search rules in
    let w : mid ≡ Writes i [] ∷ old = part ∙ ap (λ b. Writes i b ∷ old) (take-nil c.write.result) in
    let e : new ≡ Syncs i ∷ mid = search rules in
    record { course = ∥∥₁_map (as_at p.out.items p.beside.items p.taken.bytes p.found.bytes p.unread p.at (at.Owned i) old c.in-Owned.is p.course) (λ k. synced p.out.items p.beside.items p.taken.bytes p.found.bytes p.unread i old mid new k w e) }
