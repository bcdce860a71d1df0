use Rattle.std.proofs.Common.{true, false, [], filter, map, ap, ◌∙◌}
use Rattle.html_page.specs.Templates.{entry, section}
use Rattle.html_page.specs.declared.markup.TheConstants.{RETIRED_START as START, RETIRED_END as END}
use Rattle.reg_page.specs.declared.described.Described.{Described}
use Rattle.reg_page.specs.Descriptions.{at}
use Rattle.reg_page.specs.Page.{entry_of, row_of, is_among}
use Rattle.reg_page.specs.SameTexts.{first_id}
use Rattle.reg_page.proofs.LoopLemmas.{as_others}
use Rattle.reg_page.proofs.table.list_gone.Goals as goal

pub returns : goal.returns
returns c = λ m.
    let row = row_of m.ops m.described m.acts [] in
    let gone = filter (is_among true c.args.register.now.ops) (at c.args.rows.now) in
    as_others (section START.now (entry m.named) END.now (map (row (at c.deref-2.result.now)) (at c.deref.result.now))) _
    ((λ j. section START.now (entry m.named) END.now (map (row (at (c.deref-2.ensures.value j))) ((ap at c.deref.ensures.value ∙ c.in_ok-gone.ensures) j)))
    ∙ (λ j. section START.now (entry m.named) END.now (map (λ (t : Described). entry_of m.ops m.described m.acts (first_id (c.in_ok-told.ensures.same t j)) false t) gone))) (c.in_ok-list_gone_rows.ensures m)
