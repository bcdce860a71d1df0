use Rattle.std.proofs.Common.{◌≡◌, rules}
use Rattle.std.proofs.Math.Logic.{∥∥₁_map}
use Rattle.byte_place.specs.Steps.{renamed, Unrenamed}
use Rattle.byte_system.specs.System.{calls}
use Rattle.byte_place.specs.declared.progress.At.TheVariants as at
use Rattle.byte_place.specs.declared.steps.Unput.TheVariants as unput
use Rattle.byte_place.proofs.Courses.{as_at, renamed_to, lost, not_put, gone}
use Rattle.byte_place.proofs.call_place.CallPlace.puts.Goals as goal

pub invariant_of-self-in-Ok : goal.invariant_of-self-in-Ok
invariant_of-self-in-Ok g c =
    let p = c.settles.new.self in
    let i = c.in-Ready.file in
    let old = calls (g.S.System.state p.system) in
    let new = calls (g.S.System.state c.put_own.new.system) in
    let r : new ≡ renamed p.out.items p.beside.items i old = search rules in
    record { course = ∥∥₁_map (as_at p.out.items p.beside.items p.taken.bytes p.found.bytes p.unread p.at (at.Ready i) old c.in-Ready.is p.course) (λ k. renamed_to p.out.items p.beside.items p.taken.bytes p.found.bytes p.unread i old new k r) }

pub invariant_of-self-in-Err-Lost : goal.invariant_of-self-in-Err-Lost
invariant_of-self-in-Err-Lost g c =
    let p = c.settles.new.self in
    let i = c.in-Ready.file in
    let old = calls (g.S.System.state p.system) in
    let new = calls (g.S.System.state c.put_own.new.system) in
    let r : Unrenamed unput.Lost p.out.items p.beside.items i old new = search rules in
    record { course = ∥∥₁_map (as_at p.out.items p.beside.items p.taken.bytes p.found.bytes p.unread p.at (at.Ready i) old c.in-Ready.is p.course) (λ k. lost p.out.items p.beside.items p.taken.bytes p.found.bytes p.unread i old new k r) }

pub invariant_of-self-in-Err-Gone : goal.invariant_of-self-in-Err-Gone
invariant_of-self-in-Err-Gone g c =
    let p = c.settles.new.self in
    let i = c.in-Ready.file in
    let old = calls (g.S.System.state p.system) in
    let new = calls (g.S.System.state c.put_own.new.system) in
    let r : Unrenamed unput.Gone p.out.items p.beside.items i old new = search rules in
    record { course = ∥∥₁_map (as_at p.out.items p.beside.items p.taken.bytes p.found.bytes p.unread p.at (at.Ready i) old c.in-Ready.is p.course) (λ k. gone p.out.items p.beside.items p.taken.bytes p.found.bytes p.unread i old new k r) }

pub invariant_of-self-in-Err-NotPut : goal.invariant_of-self-in-Err-NotPut
invariant_of-self-in-Err-NotPut g c =
    let p = c.settles.new.self in
    let i = c.in-Ready.file in
    let old = calls (g.S.System.state p.system) in
    let new = calls (g.S.System.state c.put_own.new.system) in
    let r : Unrenamed unput.NotPut p.out.items p.beside.items i old new = search rules in
    record { course = ∥∥₁_map (as_at p.out.items p.beside.items p.taken.bytes p.found.bytes p.unread p.at (at.Ready i) old c.in-Ready.is p.course) (λ k. not_put p.out.items p.beside.items p.taken.bytes p.found.bytes p.unread i old new k r) }
