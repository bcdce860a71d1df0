use Rattle.std.proofs.Common.{true, false, [], List, filter, map, ap}
use Rattle.reg_report.specs.Contenders.{conflict_seen}
use Rattle.reg_page.specs.Blocks.{Setting, rows_with}
use Rattle.reg_page.specs.declared.described.Described.{Described}
use Rattle.reg_page.specs.Descriptions.{at}
use Rattle.reg_page.specs.Page.{is_among}
use Rattle.reg_page.specs.Parts.{table}
use Rattle.html_page.specs.Pieces.{Piece}
use Rattle.reg_page.proofs.LoopLemmas.{as_others}
use Rattle.reg_page.proofs.table.list_table.Goals as goal

pub returns : goal.returns
returns c =
    let s = c.args.register.now.ops in
    let keys = map conflict_seen c.args.conflicts.now in
    let whole : Setting → List Described → List Piece = λ m rows. table m.named (rows_with m keys [] false s rows) (rows_with m [] (filter (is_among false s) rows) true s rows) in (
      at c.in_ok-rows.rows.items,
      c.in_ok-rows.ensures,
      (λ m. as_others (whole m (at c.deref.result.now)) (whole m (at c.in_ok-rows.rows.items)) (ap (λ l. whole m (at l)) c.deref.ensures.value) (c.in_ok-list_both.ensures m)),
    )
