use Rattle.std.proofs.Common.{sym}
use Rattle.html_page.specs.Templates.{conflict}
use Rattle.html_page.specs.declared.markup.TheConstants.{CONFLICTS_START as START, CONFLICTS_END as END}
use Rattle.reg_report.specs.declared.conflict.Conflict.{Conflict}
use Rattle.reg_report.specs.Contenders.{conflict_seen}
use Rattle.reg_page.specs.Blocks.{bytes_of}
use Rattle.reg_page.specs.Page.{conflict_of}
use Rattle.reg_page.proofs.BlockLemmas.{listed}
use Rattle.reg_page.proofs.SectionLemmas.{no_section, section_of}
use Rattle.reg_page.proofs.contested.list_conflicts.Goals as goal

pub returns-then-is_empty : goal.returns-then-is_empty
returns-then-is_empty c = λ m. no_section START.now END.now (conflict m.named) (λ (k : Conflict). conflict_of c.args.described.now (conflict_seen k)) c.args.conflicts.now (bytes_of m c.args.blocks.now.items) (sym c.if-is_empty.ensures)

pub returns : goal.returns
returns c = λ m.
    section_of START.now END.now (conflict m.named) (λ (k : Conflict). conflict_of c.args.described.now (conflict_seen k)) c.args.conflicts.now (sym c.if-is_empty.ensures)
    (listed m c.args.blocks.now.items c.push.new.self.items _ c.in_ok-push.ensures.items) (c.in_ok-list_each.ensures m)
    (listed m c.list_each.new.blocks.items c.push-2.new.self.items _ c.in_ok-push-2.ensures.items)
