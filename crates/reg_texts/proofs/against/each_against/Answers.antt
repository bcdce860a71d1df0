use Rattle.std.proofs.Common.{◌+◌, ◌∷◌, ◌∙◌, drop, ap, sym, subst}
use Rattle.std.proofs.lemmas.List.{drop_more, drop_all}
use Rattle.reg_report.specs.Seen.{row_seen}
use Rattle.reg_texts.specs.Compare.{seen_rows}
use Rattle.reg_texts.specs.Given.{IsPairWith}
use Rattle.reg_texts.proofs.EachLemmas.{Gathers, gathers_none, gathers_more, gathers_all}
use Rattle.reg_texts.proofs.against.each_against.Goals as goal

pub loop-row-init : goal.loop-row-init
loop-row-init c =
    let rows = seen_rows c.args.rows.now in
    let P = IsPairWith c.args.given.now in
    subst (Gathers P rows rows) (sym c.new-text.ensures.items) (gathers_none P rows)

pub loop-row-preserved : goal.loop-row-preserved
loop-row-preserved c =
    let all = c.args.rows.now in
    let rows = seen_rows all in
    let P = IsPairWith c.args.given.now in
    let pair = c.in_ok-push_against.ensures in
    subst (Gathers P rows (seen_rows (drop (c.loop-row.row-index + 1) all))) (sym pair.2)
    (gathers_more P rows (seen_rows (drop c.loop-row.row-index all)) (seen_rows (drop (c.loop-row.row-index + 1) all)) (row_seen c.row-item.result.now) c.loop-row.text.items pair.0
    (ap seen_rows (drop_more all c.loop-row.row-index c.row-item.result c.loop-row-test.true) ∙ ap (λ r. row_seen r.now ∷ seen_rows (drop (c.loop-row.row-index + 1) all)) (sym c.row-item.is)) pair.1 c.loop-row.invariant)

pub returns : goal.returns
returns c =
    let all = c.args.rows.now in
    let P = IsPairWith c.args.given.now in
    gathers_all P (seen_rows all) (seen_rows (drop c.loop-row.row-index all)) c.loop-row.text.items (ap seen_rows (drop_all c.loop-row.row-index all c.loop-row-test.false)) c.loop-row.invariant
