use Rattle.std.proofs.Common.{◌≡◌, List, ℕ, is_some, sym, subst, ◌∙◌, option_map, rules}
use Rattle.reg_journal.specs.Adding.{is_changed}
use Rattle.reg_guard.specs.Keeping.{if_changed, IsUnpublishedAfter, TriesIf}
use Rattle.reg_guard.proofs.KeepingLemmas.{unpublished_with, published_with}
use Rattle.reg_guard.proofs.keeping.publish_after.Goals as goal

pub returns-in-Err-replace_after-clause-fault : goal.returns-in-Err-replace_after-clause-fault
returns-in-Err-replace_after-clause-fault g c =
    let f = c.args.file.now in
    let next = c.args.next in
    let y = c.args.register.now in
    let read = option_map (λ s. s.now) c.args.read in
    let place = g.P.Place.state c.args.place.now in
    let after = g.P.Place.state c.replace_after.new.place in
    let office = g.Q.Place.state c.args.office.now in
    let noted = g.Q.Place.state c.replace_after.new.office in
    let text : option_map (λ s. s.now) c.changed-changed.result ≡ if_changed (is_changed f next) c.in-Ok.text.items =
    c.changed-changed.ensures ∙ (λ k. if_changed (c.is_changed-is_changed.ensures k) (c.deref.ensures.value k)) in
    subst (IsUnpublishedAfter f next y read place after office noted) (sym c.unkept_by.ensures)
    (unpublished_with c.in-Err-replace_after.fault f next y read (option_map (λ s. s.now) c.changed-changed.result) _ c.in-Ok.text.items place after office noted
    text c.in-Ok-new.ensures.held c.in-Ok.ensures.held c.in-Err-replace_after.ensures.fault)

pub returns-clause-published : goal.returns-clause-published
returns-clause-published g c =
    let f = c.args.file.now in
    let next = c.args.next in
    let y = c.args.register.now in
    let read = option_map (λ s. s.now) c.args.read in
    let place = g.P.Place.state c.args.place.now in
    let after = g.P.Place.state c.replace_after.new.place in
    let office = g.Q.Place.state c.args.office.now in
    let noted = g.Q.Place.state c.replace_after.new.office in
    let text : option_map (λ s. s.now) c.changed-changed.result ≡ if_changed (is_changed f next) c.in-Ok.text.items =
    c.changed-changed.ensures ∙ (λ k. if_changed (c.is_changed-is_changed.ensures k) (c.deref.ensures.value k)) in
    let told = g.Q.Place.state c.tell_first.new.office in
    let landed = option_map (λ v. v.items) c.in-Ok-landed_text.landed in
    let same : c.is_some.result ≡ is_some read = search rules in
    published_with f next y read (option_map (λ s. s.now) c.changed-changed.result) _ c.in-Ok.text.items c.is_some.result c.is_changed-is_changed.result place after office noted told
    text c.in-Ok-new.ensures.held c.in-Ok.ensures.held c.in-Ok-replace_after.ensures.ok same c.is_changed-is_changed.ensures (
      c.in-Ok.text.items,
      landed,
      c.in-Ok.ensures.held,
      c.in-Ok-landed_text.ensures.landed,
      subst (λ (t : List ℕ). TriesIf c.is_changed-is_changed.result t landed noted told) c.deref-2.ensures.value c.tell_first.ensures,
    )
