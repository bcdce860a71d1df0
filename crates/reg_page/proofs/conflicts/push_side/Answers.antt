use Rattle.std.proofs.Common.{◌∙◌}
use Rattle.std.specs.List.{flat_map}
use Rattle.html_page.proofs.JoinLemmas.{next}
use Rattle.html_page.specs.Templates.{side_start, word}
use Rattle.html_page.specs.Words.{compared}
use Rattle.reg_op.specs.Text.{printed}
use Rattle.reg_page.specs.Page.{named}
use Rattle.reg_page.proofs.LoopLemmas.{as_others}
use Rattle.reg_page.proofs.conflicts.push_side.Goals as goal

pub returns : goal.returns
returns c =
    let t = c.args.one.now in
    let u = c.args.other.now in
    next (next
    (as_others _ (side_start (printed t.id) (named c.args.names.now (printed t.id)) t.note.items)
    (λ j. side_start ((c.deref.ensures.value ∙ c.in_ok-id.ensures) j) ((c.deref-2.ensures.value ∙ c.in_ok-read.ensures) j) (c.deref-3.ensures.value j)) c.in_ok-push_side_start.ensures)
    (as_others _ (flat_map word (compared t.system.text.items u.system.text.items)) (λ j. flat_map word (compared (c.deref-4.ensures.value j) (c.deref-5.ensures.value j))) c.in_ok-push_compared.ensures))
    c.in_ok-push_mark.ensures
