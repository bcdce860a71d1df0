use Rattle.std.proofs.Common.{true, false, [], filter, map, ap, ◌∙◌}
use Rattle.std.specs.List.{flat_map}
use Rattle.html_page.proofs.JoinLemmas.{next}
use Rattle.html_page.specs.Templates.{entry, section}
use Rattle.html_page.specs.declared.markup.TheConstants.{RETIRED_START as START, RETIRED_END as END}
use Rattle.reg_report.specs.Contenders.{conflict_seen}
use Rattle.reg_page.specs.Blocks.{rows_with}
use Rattle.reg_page.specs.Descriptions.{at}
use Rattle.reg_page.specs.Page.{row_of, is_among}
use Rattle.reg_page.proofs.BlockLemmas.{listed}
use Rattle.reg_page.proofs.LoopLemmas.{as_others}
use Rattle.reg_page.proofs.table.list_both.Goals as goal

pub returns : goal.returns
returns c = λ m.
    let s = c.args.register.now.ops in
    let rows = at c.args.rows.now in
    let keys = map conflict_seen c.args.conflicts.now in
    let live = as_others _ (flat_map (entry m.named) (rows_with m keys [] false s rows))
    (λ j. flat_map (entry m.named) (map (row_of m.ops m.described m.acts keys []) ((ap at c.deref.ensures.value ∙ c.in_ok-live.ensures) j))) (c.in_ok-list_rows.ensures m) in
    let gone = as_others _ (section START.now (entry m.named) END.now (rows_with m [] (filter (is_among false s) rows) true s rows))
    (λ j. section START.now (entry m.named) END.now (rows_with m [] (c.in_ok-live.ensures j) true s rows)) (c.in_ok-list_gone.ensures m) in
    next (next (next (next (listed m c.args.blocks.now.items c.push.new.self.items _ c.in_ok-push.ensures.items) live)
    (listed m c.list_rows.new.blocks.items c.push-2.new.self.items _ c.in_ok-push-2.ensures.items)) gone)
    (listed m c.list_gone.new.blocks.items c.push-3.new.self.items _ c.in_ok-push-3.ensures.items)
