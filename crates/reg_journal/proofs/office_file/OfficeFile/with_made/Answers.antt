use Rattle.std.proofs.Common.{◌∙◌, ℕ, List, refl, sym, ap, subst, Err}
use Rattle.reg_op.specs.Contents.{joined}
use Rattle.reg_office.specs.Making.{greatest}
use Rattle.reg_journal.specs.Journal.{IsOffice}
use Rattle.reg_journal.proofs.AddingLemmas.{new_office, no_new_clash}
use Rattle.reg_journal.proofs.office_file.OfficeFile.with_made.Goals as goal

pub invariant_of-result : goal.invariant_of-result
invariant_of-result c =
    subst (λ (p : List ℕ × ℕ). IsOffice (record { replica = p.0; last = c.last_in-last.result; stood = p.1; made = c.in-Ok.made })) (λ k. (sym c.replica.ensures k, sym c.stood.ensures k))
    (new_office c.args.self.now c.args.register.now c.in_ok-fresh.fresh c.last-office.ensures.office c.seen-content.ensures.content c.seen-fresh.ensures.content c.in_ok-fresh.ensures
    (greatest c.args.self.now.replica c.args.register.now.seen) c.last_in-last.result c.in-Ok.made refl c.last_in-last.ensures c.last_in-last.type_inv
    (ap (λ m. joined m c.in_ok-fresh.fresh) (sym c.made.ensures) ∙ c.in-Ok.ensures.ok))

pub unreachable-requires : goal.unreachable-requires
unreachable-requires c =
    let clash = (c.join.ensures.clash c.in-Err-Clash.field-0-0).0 (c.in-Err-Clash.is ∙ ap Err c.in-Err-Clash.field-0-is) in
    no_new_clash c.args.self.now c.args.register.now c.in_ok-fresh.fresh c.last-office.ensures.office c.seen-content.ensures.content c.seen-fresh.ensures.content c.in_ok-fresh.ensures
    c.in-Err-Clash.field-0-0 (ap (λ m. joined m c.in_ok-fresh.fresh) (sym c.made.ensures) ∙ clash)
