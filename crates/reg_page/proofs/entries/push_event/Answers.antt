use Rattle.std.proofs.Common.{sym, ◌∙◌}
use Rattle.reg_page.specs.Page.{named}
use Rattle.reg_page.proofs.EventLemmas.{entering_shows, superseding_other, retiring_other}
use Rattle.reg_page.proofs.entries.push_event.Goals as goal

pub returns-in-Enter : goal.returns-in-Enter
returns-in-Enter c = entering_shows (named c.args.names.now) c.args.described.now c.args.entry c.args.op.now c.in-Enter.field-0 c.args.page.now.items (sym c.body.ensures ∙ c.in-Enter.is)

pub returns-else-is_same : goal.returns-else-is_same
returns-else-is_same c = superseding_other (named c.args.names.now) c.args.described.now c.args.entry c.in-Supersede.old c.in-Supersede.newer c.args.op.now c.args.page.now.items (sym c.body.ensures ∙ c.in-Supersede.is) (sym c.if-is_same.ensures)

pub returns-else-is_same-2 : goal.returns-else-is_same-2
returns-else-is_same-2 c = retiring_other (named c.args.names.now) c.args.described.now c.args.entry c.in-Retire.retired c.args.op.now c.args.page.now.items (sym c.body.ensures ∙ c.in-Retire.is) (sym c.if-is_same-2.ensures)
