use Rattle.std.proofs.Common.{[], ◌==◌, sym, ap, ◌∙◌}
use Rattle.std.specs.Borrow.{Bor}
use Rattle.std.proofs.lemmas.List.{length-map}
use Rattle.html_page.specs.Templates.{entry}
use Rattle.html_page.specs.declared.markup.TheConstants.{RETIRED_START as START, RETIRED_END as END}
use Rattle.reg_page.specs.declared.described.Described.{Described}
use Rattle.reg_page.specs.Blocks.{bytes_of}
use Rattle.reg_page.specs.Descriptions.{at}
use Rattle.reg_page.specs.Page.{row_of}
use Rattle.reg_page.proofs.BlockLemmas.{listed}
use Rattle.reg_page.proofs.SectionLemmas.{no_section, section_of}
use Rattle.reg_page.proofs.table.list_gone_rows.Goals as goal

pub returns-then-is_empty : goal.returns-then-is_empty
returns-then-is_empty c = λ m.
    no_section START.now END.now (entry m.named) (row_of m.ops m.described m.acts [] (at c.args.told.now)) (at c.args.gone.now) (bytes_of m c.args.blocks.now.items)
    (ap (λ n. n == 0) (length-map c.args.gone.now (λ (t : Bor Described). t.now)) ∙ sym c.if-is_empty.ensures)

pub returns : goal.returns
returns c = λ m.
    section_of START.now END.now (entry m.named) (row_of m.ops m.described m.acts [] (at c.args.told.now)) (at c.args.gone.now)
    (ap (λ n. n == 0) (length-map c.args.gone.now (λ (t : Bor Described). t.now)) ∙ sym c.if-is_empty.ensures)
    (listed m c.args.blocks.now.items c.push.new.self.items _ c.in_ok-push.ensures.items) (c.in_ok-list_rows.ensures m)
    (listed m c.list_rows.new.blocks.items c.push-2.new.self.items _ c.in_ok-push-2.ensures.items)
