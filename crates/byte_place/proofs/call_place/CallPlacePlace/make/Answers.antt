use Rattle.std.proofs.Common.{◌≡◌, ◌∷◌, [], take, ap, ◌∙◌, rules}
use Rattle.std.proofs.Math.Logic.{∥∥₁_map, ∥∥₁_elim}
use Rattle.std.proofs.Props.{props}
use Rattle.std.proofs.Math.Seq.{take-nil}
use Rattle.byte_system.specs.Disk.{Writes}
use Rattle.byte_system.specs.System.{calls}
use Rattle.byte_place.specs.declared.progress.At.TheVariants as at
use Rattle.byte_place.proofs.Courses.{as_at, opened}
use Rattle.byte_place.proofs.call_place.CallPlacePlace.make.Goals as goal

pub invariant_of-self-2 : goal.invariant_of-self-2
invariant_of-self-2 g c =
    let p = c.reserve.new.self in
    let i = c.in-Reserved.file in
    let old = calls (g.S.System.state p.system) in
    let new = calls (g.S.System.state c.write.new.self) in
    let part : new ≡ Writes i (take c.write.result []) ∷ old = search rules in
    let e : new ≡ Writes i [] ∷ old = part ∙ ap (λ b. Writes i b ∷ old) (take-nil c.write.result) in
    record { course = ∥∥₁_map (as_at p.out.items p.beside.items p.taken.bytes p.found.bytes p.unread p.at (at.Reserved i) old c.in-Reserved.is p.course) (λ k. opened p.out.items p.beside.items p.taken.bytes p.found.bytes p.unread i old new k e) }

pub returns-clause-empty : goal.returns-clause-empty
returns-clause-empty g c =
    let p = c.reserve.new.self in
    let old = calls (g.S.System.state p.system) in
    ∥∥₁_elim (as_at p.out.items p.beside.items p.taken.bytes p.found.bytes p.unread p.at (at.Reserved c.in-Reserved.file) old c.in-Reserved.is p.course) (search props) (λ k. k.0)
