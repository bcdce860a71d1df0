use Rattle.std.proofs.Common.{◌+◌, ◌∷◌, ◌∙◌, drop, map, ap, sym, subst}
use Rattle.std.proofs.lemmas.List.{drop_more, drop_all}
use Rattle.reg_report.specs.Seen.{row_seen}
use Rattle.reg_texts.specs.Compare.{seen_rows}
use Rattle.reg_texts.specs.Gathered.{AreOfRow}
use Rattle.reg_texts.specs.Said.{said}
use Rattle.reg_texts.proofs.EachLemmas.{Gathers, gathers_none, gathers_more, gathers_all}
use Rattle.reg_texts.proofs.gathering.sayings_about.Goals as goal

pub loop-row-init : goal.loop-row-init
loop-row-init c =
    let some = seen_rows c.args.some.now in
    let P = AreOfRow (map row_seen c.args.rows.now) in
    subst (Gathers P some some) (sym (ap (map said) c.new-made.ensures.items)) (gathers_none P some)

pub loop-row-preserved : goal.loop-row-preserved
loop-row-preserved c =
    let all = c.args.some.now in
    let some = seen_rows all in
    let P = AreOfRow (map row_seen c.args.rows.now) in
    let mine = c.in_ok-push_row.ensures in
    subst (Gathers P some (seen_rows (drop (c.loop-row.row-index + 1) all))) (sym mine.2)
    (gathers_more P some (seen_rows (drop c.loop-row.row-index all)) (seen_rows (drop (c.loop-row.row-index + 1) all)) (row_seen c.row-item.result.now) (map said c.loop-row.made.items) mine.0
    (ap seen_rows (drop_more all c.loop-row.row-index c.row-item.result c.loop-row-test.true) ∙ ap (λ r. row_seen r.now ∷ seen_rows (drop (c.loop-row.row-index + 1) all)) (sym c.row-item.is)) mine.1 c.loop-row.invariant)

pub returns : goal.returns
returns c =
    let all = c.args.some.now in
    let P = AreOfRow (map row_seen c.args.rows.now) in
    gathers_all P (seen_rows all) (seen_rows (drop c.loop-row.row-index all)) (map said c.loop-row.made.items) (ap seen_rows (drop_all c.loop-row.row-index all c.loop-row-test.false)) c.loop-row.invariant
