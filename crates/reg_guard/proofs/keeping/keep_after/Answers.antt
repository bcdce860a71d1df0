use Rattle.std.proofs.Common.{◌≡◌, Bool, List, ℕ, Option, subst, ◌∙◌, option_map}
use Rattle.byte_office.specs.Noting.{NotesIf}
use Rattle.reg_journal.specs.Adding.{is_changed}
use Rattle.reg_engine.specs.Shelf.{disks}
use Rattle.reg_engine.proofs.ShelfLemmas.{then_has, then_keeps, then_unput}
use Rattle.reg_guard.specs.Keeping.{if_changed, TriesIf}
use Rattle.reg_guard.proofs.KeepingLemmas.{unput_after}
use Rattle.reg_guard.proofs.keeping.keep_after.Goals as goal

pub returns-in-Err-put_on-clause-fault : goal.returns-in-Err-put_on-clause-fault
returns-in-Err-put_on-clause-fault g c = λ was has sure.
    let d = disks g.D.Disk.tells g.D.Disk.seen g.D.Disk.images g.D.Disk.moment g.D.Disk.images_since g.D.Disk.failures in
    let y = c.args.register.now in
    let old = c.args.disk.now in
    let mid = c.ready_on.new.disk in
    let new = c.put_on.new.disk in
    let office = g.Q.Place.state c.args.office.now in
    let noted = g.Q.Place.state c.put_changed.new.place in
    let ready = c.in-Ok-ready_on.ensures in
    let text : option_map (λ s. s.now) c.changed-changed.result ≡ if_changed (is_changed c.args.file.now c.args.next) c.in-Ok.text.items =
    c.changed-changed.ensures ∙ (λ k. if_changed (c.is_changed-is_changed.ensures k) (c.deref.ensures.value k)) in
    unput_after d c.args.file.now c.args.next was y old new office noted c.in-Err-put_on.fault
    (then_unput d old mid new ready.tells ready.stays was y c.in-Err-put_on.fault (c.in-Err-put_on.ensures.fault was y (then_has d old mid new ready.tells ready.stays was has) ready.sure ready.ready))
    (c.in-Ok.text.items, c.in-Ok.ensures.held, subst (λ (t : Option (List ℕ)). NotesIf t office noted) text c.in_default.ensures.noted)

pub returns-clause-kept : goal.returns-clause-kept
returns-clause-kept g c = λ was has sure.
    let d = disks g.D.Disk.tells g.D.Disk.seen g.D.Disk.images g.D.Disk.moment g.D.Disk.images_since g.D.Disk.failures in
    let y = c.args.register.now in
    let old = c.args.disk.now in
    let mid = c.ready_on.new.disk in
    let new = c.put_on.new.disk in
    let office = g.Q.Place.state c.args.office.now in
    let noted = g.Q.Place.state c.put_changed.new.place in
    let told = g.Q.Place.state c.tell_first.new.office in
    let landed = option_map (λ v. v.items) c.in-Ok-landed_text.landed in
    let ready = c.in-Ok-ready_on.ensures in
    let text : option_map (λ s. s.now) c.changed-changed.result ≡ if_changed (is_changed c.args.file.now c.args.next) c.in-Ok.text.items =
    c.changed-changed.ensures ∙ (λ k. if_changed (c.is_changed-is_changed.ensures k) (c.deref.ensures.value k)) in
    record {
      noted = noted;
      notes = (c.in-Ok.text.items, c.in-Ok.ensures.held, subst (λ (t : Option (List ℕ)). NotesIf t office noted) text c.in_default.ensures.noted);
      keeps = then_keeps d old mid new ready.tells ready.stays was y (c.in-Ok-put_on.ensures.kept was y (then_has d old mid new ready.tells ready.stays was has) ready.sure ready.ready);
      tells = (
        c.in-Ok.text.items,
        landed,
        c.in-Ok.ensures.held,
        c.in-Ok-landed_text.ensures.landed,
        subst (λ (b : Bool). TriesIf b c.in-Ok.text.items landed noted told) c.is_changed-is_changed.ensures
            (subst (λ (t : List ℕ). TriesIf c.is_changed-is_changed.result t landed noted told) c.deref-2.ensures.value c.tell_first.ensures),
      );
    }
