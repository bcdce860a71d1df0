use Rattle.std.proofs.Common.{sym}
use Rattle.html_page.specs.Templates.{awaited}
use Rattle.html_page.specs.declared.markup.TheConstants.{AWAITED_START as START, AWAITED_END as END}
use Rattle.reg_op.specs.Text.{printed}
use Rattle.reg_page.specs.Blocks.{bytes_of}
use Rattle.reg_page.proofs.BlockLemmas.{listed}
use Rattle.reg_page.proofs.SectionLemmas.{no_section, section_of}
use Rattle.reg_page.proofs.missing.list_awaited.Goals as goal

pub returns-then-is_empty : goal.returns-then-is_empty
returns-then-is_empty c = λ m. no_section START.now END.now (awaited m.named) printed c.args.ids.now (bytes_of m c.args.blocks.now.items) (sym c.if-is_empty.ensures)

pub returns : goal.returns
returns c = λ m.
    section_of START.now END.now (awaited m.named) printed c.args.ids.now (sym c.if-is_empty.ensures)
    (listed m c.args.blocks.now.items c.push.new.self.items _ c.in_ok-push.ensures.items) (c.in_ok-list_each_awaited.ensures m)
    (listed m c.list_each_awaited.new.blocks.items c.push-2.new.self.items _ c.in_ok-push-2.ensures.items)
