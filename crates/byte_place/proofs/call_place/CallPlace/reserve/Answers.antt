use Rattle.std.proofs.Common.{◌≡◌, sym, rules}
use Rattle.std.proofs.Math.Logic.{∥∥₁_map}
use Rattle.byte_system.specs.System.{calls}
use Rattle.byte_place.specs.declared.progress.At.TheVariants as at
use Rattle.byte_protocol.specs.Replacing.{reserved, Refuses}
use Rattle.byte_place.specs.Steps.{Visits}
use Rattle.byte_place.proofs.Courses.{as_at, visited, reserved_own, refused}
use Rattle.byte_place.proofs.call_place.CallPlace.reserve.Goals as goal

pub invariant_of-self : goal.invariant_of-self
invariant_of-self g c =
    let p = c.args.self.now in
    let old = calls (g.S.System.state p.system) in
    let mid = calls (g.S.System.state c.visit.new.system) in
    let v : Visits p.out.items old mid = search rules in
    record { course = as_at p.out.items p.beside.items p.taken.bytes p.found.bytes p.unread at.Start p.at mid (sym c.in-Start.is) (∥∥₁_map (as_at p.out.items p.beside.items p.taken.bytes p.found.bytes p.unread p.at at.Start old c.in-Start.is p.course) (λ k. visited p.out.items p.beside.items p.taken.bytes p.found.bytes p.unread old mid k v)) }

pub invariant_of-self-in-Err-reserve : goal.invariant_of-self-in-Err-reserve
invariant_of-self-in-Err-reserve g c =
    let p = c.args.self.now in
    let old = calls (g.S.System.state p.system) in
    let mid = calls (g.S.System.state c.visit.new.system) in
    let v : Visits p.out.items old mid = search rules in
    let new = calls (g.S.System.state c.reserve.new.system) in
    let r : Refuses c.in-Err.fault p.beside.items mid new = search rules in
    record { course = as_at p.out.items p.beside.items p.taken.bytes p.found.bytes p.unread at.Start p.at new (sym c.in-Start.is) (∥∥₁_map (as_at p.out.items p.beside.items p.taken.bytes p.found.bytes p.unread p.at at.Start old c.in-Start.is p.course) (λ k. refused p.out.items p.beside.items p.taken.bytes p.found.bytes p.unread c.in-Err.fault mid new (visited p.out.items p.beside.items p.taken.bytes p.found.bytes p.unread old mid k v) r)) }

pub invariant_of-self-2 : goal.invariant_of-self-2
invariant_of-self-2 g c =
    let p = c.args.self.now in
    let old = calls (g.S.System.state p.system) in
    let mid = calls (g.S.System.state c.visit.new.system) in
    let v : Visits p.out.items old mid = search rules in
    let new = calls (g.S.System.state c.reserve.new.system) in
    let m = c.in-Ok-reserve.made in
    let e : new ≡ reserved p.beside.items m.left m.file mid = search rules in
    record { course = ∥∥₁_map (as_at p.out.items p.beside.items p.taken.bytes p.found.bytes p.unread p.at at.Start old c.in-Start.is p.course) (λ k. reserved_own p.out.items p.beside.items p.taken.bytes p.found.bytes p.unread m.left m.file mid new (visited p.out.items p.beside.items p.taken.bytes p.found.bytes p.unread old mid k v) e) }
