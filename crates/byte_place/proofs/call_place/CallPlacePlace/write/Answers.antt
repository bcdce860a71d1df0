use Rattle.std.proofs.Common.{◌≡◌, ◌∷◌, ◌++◌, ◌≤◌, take, length, sym, ap, ◌∙◌, arith, rules}
use Rattle.std.proofs.Math.Logic.{∥∥₁_map}
use Rattle.std.proofs.lemmas.List.{take_all}
use Rattle.byte_system.specs.Disk.{Writes}
use Rattle.byte_system.specs.System.{calls}
use Rattle.byte_place.specs.declared.progress.At.TheVariants as at
use Rattle.byte_place.proofs.Courses.{as_at, cut, wrote}
use Rattle.byte_place.proofs.call_place.CallPlacePlace.write.Goals as goal

pub invariant_of-self-then-written-bytes : goal.invariant_of-self-then-written-bytes
invariant_of-self-then-written-bytes g c =
    let p = c.args.self.now in
    let i = c.in-Owned.file in
    let old = calls (g.S.System.state p.system) in
    let new = calls (g.S.System.state c.write-written.new.self) in
    let part = take c.write-written.result c.args.bytes.now in
    let e : new ≡ Writes i part ∷ old = search rules in
    let w : c.note.new.self.bytes ≡ p.taken.bytes ++ part = search rules in
    record { course = ∥∥₁_map (as_at p.out.items p.beside.items p.taken.bytes p.found.bytes p.unread p.at (at.Owned i) old c.in-Owned.is p.course) (λ k. cut p.out.items p.beside.items p.taken.bytes part c.note.new.self.bytes p.found.bytes p.unread i old new k e w) }

pub invariant_of-self-2 : goal.invariant_of-self-2
invariant_of-self-2 g c =
    let p = c.args.self.now in
    let i = c.in-Owned.file in
    let old = calls (g.S.System.state p.system) in
    let new = calls (g.S.System.state c.write-written.new.self) in
    let bytes = c.args.bytes.now in
    let le : length bytes ≤ c.write-written.result = omega (arith, c.if-written-bytes.false) in
    let part : new ≡ Writes i (take c.write-written.result bytes) ∷ old = search rules in
    let e : new ≡ Writes i bytes ∷ old = part ∙ ap (λ b. Writes i b ∷ old) (take_all c.write-written.result bytes le) in
    let w : c.note-2.new.self.bytes ≡ p.taken.bytes ++ bytes = search rules in
    record { course = as_at p.out.items p.beside.items c.note-2.new.self.bytes p.found.bytes p.unread (at.Owned i) p.at new (sym c.in-Owned.is) (∥∥₁_map (as_at p.out.items p.beside.items p.taken.bytes p.found.bytes p.unread p.at (at.Owned i) old c.in-Owned.is p.course) (λ k. wrote p.out.items p.beside.items p.taken.bytes bytes c.note-2.new.self.bytes p.found.bytes p.unread i old new k e w)) }
