use Rattle.std.proofs.Common.{◌≡◌, ◌+◌, ◌<◌, length, None, map, sym, ◌∙◌, subst, inl}
use Rattle.reg_office.specs.Effects.{effect_of}
use Rattle.reg_office.specs.Making.{greatest, objections, new_ops, AreAllowed}
use Rattle.reg_office.proofs.NumberLemmas.{length_map, made_spent, spent_over}
use Rattle.reg_office.proofs.NewLemmas.{none_dropped}
use Rattle.reg_office.proofs.office.Office.run.Goals as goal

pub returns-then-is_spent-clause-fault : goal.returns-then-is_spent-clause-fault
returns-then-is_spent-clause-fault c =
    let x = c.args.self.now.register in
    let r = c.args.self.now.replica in
    let note = c.args.note.now in
    let named = c.args.named.now in
    let f = effect_of c.args.command.now in
    let none : objections x (new_ops x r note (map f named)) ≡ None = sym (c.first_fault.ensures r (greatest r x.seen + 1) note) ∙ c.in_default-first_fault.is in
    let over = spent_over 4294967295 (greatest r c.seen.result.now) (length named) (sym c.if-is_spent.ensures.spent) c.if-is_spent.ensures.range in
    inl (made_spent x r note (map f named) (sym c.note_fault.ensures ∙ c.in_default.is) none (subst (λ k. 0 < k) (sym (length_map f named)) over.0)
    (subst (λ k. 4294967295 < greatest r x.seen + k) (sym (length_map f named)) (subst (λ v. 4294967295 < greatest r v + length named) c.seen.ensures.value over.1)))

pub make-requires : goal.make-requires
make-requires c =
    let x = c.args.self.now.register in
    let r = c.args.self.now.replica in
    let note = c.args.note.now in
    let none : objections x (new_ops x r note (map (effect_of c.args.command.now) c.args.named.now)) ≡ None =
    sym (c.first_fault.ensures r (greatest r x.seen + 1) note) ∙ c.in_default-first_fault.is in
    subst (AreAllowed x r note) (sym (c.deref.ensures.value ∙ c.in-Ok.ensures))
    (record { none_refused = none; none_dropped = none_dropped c.args.command.now x r (greatest r x.seen + 1) note c.args.named.now none })
