use Rattle.std.proofs.Common.{◌≡◌, ◌+◌, ◌≤◌, subst, Err, sym, ap, ◌∙◌}
use Rattle.reg_op.specs.declared.operation.OpBody.TheVariants as body
use Rattle.reg_state.specs.Runs.{id_at}
use Rattle.reg_office.specs.Making.{greatest}
use Rattle.reg_office.proofs.NumberLemmas.{one_made, one_joins, enter_done}
use Rattle.reg_state.proofs.TableLemmas.{ok_not_err}
use Rattle.reg_office.proofs.office.Office.enter.Goals as goal

pub unreachable-requires-in-Err-Clash : goal.unreachable-requires-in-Err-Clash
unreachable-requires-in-Err-Clash c =
    let x = c.args.self.now.register in
    let r = c.args.self.now.replica in
    let is : c.in-Ok-new.op ≡ record { id = id_at r (greatest r x.seen + 1); body = body.Enter c.args.definition; note = c.args.note.now } =
    one_made x r c.args.note.now (body.Enter c.args.definition) c.in-Ok-new.op c.in-Some-new.id c.in-Ok.noted c.in-Some-next_count.first c.seen.result.now c.in-Ok-new.ensures.ok c.in-Ok.ensures c.in-Some-new.ensures.value c.in-Some-next_count.ensures.some.0 c.seen.ensures.value in
    ok_not_err _ c.in-Err-Clash.field-0-0 (sym (one_joins x r c.args.note.now (body.Enter c.args.definition) c.in-Ok-new.op c.seen.ensures.content is)
    ∙ (c.take.ensures.clash c.in-Err-Clash.field-0-0).0 (c.in-Err-Clash.is ∙ ap Err c.in-Err-Clash.field-0-is))

pub returns-in-Ok-take-clause-ok : goal.returns-in-Ok-take-clause-ok
returns-in-Ok-take-clause-ok c =
    let x = c.args.self.now.register in
    let r = c.args.self.now.replica in
    let is : c.in-Ok-new.op ≡ record { id = id_at r (greatest r x.seen + 1); body = body.Enter c.args.definition; note = c.args.note.now } =
    one_made x r c.args.note.now (body.Enter c.args.definition) c.in-Ok-new.op c.in-Some-new.id c.in-Ok.noted c.in-Some-next_count.first c.seen.result.now c.in-Ok-new.ensures.ok c.in-Ok.ensures c.in-Some-new.ensures.value c.in-Some-next_count.ensures.some.0 c.seen.ensures.value in
    enter_done x _ r c.args.note.now c.args.definition c.in-Ok-new.op c.in-Some-new.id (sym c.note_fault.ensures ∙ c.in_default.is) is (sym (ap (λ o. o.id) c.in-Ok-new.ensures.ok)) (subst (λ v. greatest r v + 1 ≤ 4294967295) c.seen.ensures.value c.in-Some-next_count.ensures.some.1) c.in-Ok-take.ensures.ok
