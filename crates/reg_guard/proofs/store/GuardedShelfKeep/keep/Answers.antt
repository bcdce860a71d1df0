use Rattle.std.proofs.Common.{◌≡◌, sym, subst}
use Rattle.reg_office.specs.Making.{greatest}
use Rattle.reg_journal.specs.Journal.{Journal}
use Rattle.reg_journal.specs.Adding.{left_by}
use Rattle.reg_engine.specs.Shelf.{disks}
use Rattle.reg_guard.specs.Keeping.{KeepsAfter, IsUnkeptAfter}
use Rattle.reg_guard.proofs.StoreLemmas.{on_left_by, on_unleft_by}
use Rattle.reg_guard.proofs.store.GuardedShelfKeep.keep.Goals as goal

pub returns-in-Ok-keep_after-clause-left : goal.returns-in-Ok-keep_after-clause-left
returns-in-Ok-keep_after-clause-left g c = λ first was same came.
    let d = disks g.D.Disk.tells g.D.Disk.seen g.D.Disk.images g.D.Disk.moment g.D.Disk.images_since g.D.Disk.failures in
    let y = c.args.register.now in
    let old = c.args.self.now in
    let next = c.in-Ok.next in
    let disk = c.keep_after.new.disk in
    let still = g.Q.Place.state old.office.now in
    let noted = g.Q.Place.state c.keep_after.new.office in
    let file : old.file.now ≡ first.file.now = (λ k. (same.3 k).now) in
    let is : next ≡ left_by first.file.now was y =
    subst (λ (j : Journal). next ≡ left_by j was y) file (c.in-Ok.ensures was (subst (λ (j : Journal). old.stood ≡ greatest j.replica was.seen) (sym file) came.1)) in
    on_left_by first.file.now next old.stood d was y first.disk.now old.disk.now disk (g.Q.Place.state first.office.now) still noted same.1 is came
    (λ w has sure. subst (λ (j : Journal). KeepsAfter d j next w y old.disk.now disk still noted) file (c.in-Ok-keep_after.ensures.kept w has sure))

pub returns-in-Err-clause-unleft : goal.returns-in-Err-clause-unleft
returns-in-Err-clause-unleft g c = λ first was same came.
    let d = disks g.D.Disk.tells g.D.Disk.seen g.D.Disk.images g.D.Disk.moment g.D.Disk.images_since g.D.Disk.failures in
    let y = c.args.register.now in
    let old = c.args.self.now in
    let next = c.in-Ok.next in
    let disk = c.keep_after.new.disk in
    let still = g.Q.Place.state old.office.now in
    let noted = g.Q.Place.state c.keep_after.new.office in
    let file : old.file.now ≡ first.file.now = (λ k. (same.3 k).now) in
    let is : next ≡ left_by first.file.now was y =
    subst (λ (j : Journal). next ≡ left_by j was y) file (c.in-Ok.ensures was (subst (λ (j : Journal). old.stood ≡ greatest j.replica was.seen) (sym file) came.1)) in
    on_unleft_by first.file.now next old.stood d was y first.disk.now old.disk.now disk (g.Q.Place.state first.office.now) still noted same.1 is came c.in-Err.fault
    (λ w has sure. subst (λ (j : Journal). IsUnkeptAfter d j next w y old.disk.now disk still noted c.in-Err.fault) file (c.in-Err.ensures.fault w has sure))
