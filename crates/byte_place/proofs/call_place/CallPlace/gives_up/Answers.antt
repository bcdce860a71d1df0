use Rattle.std.proofs.Math.Logic.{∥∥₁_map}
use Rattle.byte_system.specs.System.{calls}
use Rattle.byte_place.specs.declared.progress.At.TheVariants as at
use Rattle.byte_place.proofs.Courses.{as_at, gives_reserved, gives_owned, gives_synced, gives_ready}
use Rattle.byte_place.proofs.call_place.CallPlace.gives_up.Goals as goal

pub invariant_of-self : goal.invariant_of-self
invariant_of-self g c =
    let p = c.args.self.now in
    let i = c.in-Reserved.file in
    let old = calls (g.S.System.state p.system) in
    record { course = ∥∥₁_map (as_at p.out.items p.beside.items p.taken.bytes p.found.bytes p.unread p.at (at.Reserved i) old c.in-Reserved.is p.course) (λ k. gives_reserved p.out.items p.beside.items p.taken.bytes p.found.bytes p.unread i old k) }

pub invariant_of-self-in-Owned : goal.invariant_of-self-in-Owned
invariant_of-self-in-Owned g c =
    let p = c.args.self.now in
    let i = c.in-Owned.file in
    let old = calls (g.S.System.state p.system) in
    record { course = ∥∥₁_map (as_at p.out.items p.beside.items p.taken.bytes p.found.bytes p.unread p.at (at.Owned i) old c.in-Owned.is p.course) (λ k. gives_owned p.out.items p.beside.items p.taken.bytes p.found.bytes p.unread i old k) }

pub invariant_of-self-in-Synced : goal.invariant_of-self-in-Synced
invariant_of-self-in-Synced g c =
    let p = c.args.self.now in
    let i = c.in-Synced.file in
    let old = calls (g.S.System.state p.system) in
    record { course = ∥∥₁_map (as_at p.out.items p.beside.items p.taken.bytes p.found.bytes p.unread p.at (at.Synced i) old c.in-Synced.is p.course) (λ k. gives_synced p.out.items p.beside.items p.taken.bytes p.found.bytes p.unread i old k) }

pub invariant_of-self-in-Ready : goal.invariant_of-self-in-Ready
invariant_of-self-in-Ready g c =
    let p = c.args.self.now in
    let i = c.in-Ready.file in
    let old = calls (g.S.System.state p.system) in
    record { course = ∥∥₁_map (as_at p.out.items p.beside.items p.taken.bytes p.found.bytes p.unread p.at (at.Ready i) old c.in-Ready.is p.course) (λ k. gives_ready p.out.items p.beside.items p.taken.bytes p.found.bytes p.unread i old k) }
