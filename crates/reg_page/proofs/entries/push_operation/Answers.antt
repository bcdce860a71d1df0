use Rattle.std.proofs.Common.{ap, ◌∙◌}
use Rattle.html_page.proofs.JoinLemmas.{next}
use Rattle.html_page.specs.Templates.{operation_id, operation_note}
use Rattle.reg_op.specs.Text.{printed}
use Rattle.reg_page.specs.Page.{named}
use Rattle.reg_page.proofs.LoopLemmas.{as_others}
use Rattle.reg_page.proofs.entries.push_operation.Goals as goal

pub returns : goal.returns
returns c =
    let o = c.args.op.now in
    next
    (as_others _ (operation_id (named c.args.names.now (printed o.id))) (ap operation_id (c.deref.ensures.value ∙ c.in_ok-read.ensures ∙ ap (λ i. named c.args.names.now (printed i)) c.id.ensures.value)) c.in_ok-push_operation_id.ensures)
    (as_others _ (operation_note o.note) (ap operation_note (c.as_bytes.ensures.bytes ∙ c.note.ensures)) c.in_ok-push_operation_note.ensures)
