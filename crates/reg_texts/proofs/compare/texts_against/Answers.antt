use Rattle.std.proofs.Common.{◌+◌, ◌∷◌, ◌∙◌, drop, ap, sym, subst}
use Rattle.std.proofs.lemmas.List.{drop_more, drop_all}
use Rattle.reg_report.specs.Seen.{row_seen}
use Rattle.reg_texts.specs.Compare.{IsPairOf, seen_rows}
use Rattle.reg_texts.proofs.EachLemmas.{Gathers, gathers_none, gathers_more, gathers_all}
use Rattle.reg_texts.proofs.compare.texts_against.Goals as goal

pub loop-other-init : goal.loop-other-init
loop-other-init c =
    let rows = seen_rows c.args.others.now in
    let P = IsPairOf (row_seen c.args.first.now) in
    subst (Gathers P rows rows) (sym c.new-text.ensures.items) (gathers_none P rows)

pub loop-other-preserved : goal.loop-other-preserved
loop-other-preserved c =
    let all = c.args.others.now in
    let rows = seen_rows all in
    let P = IsPairOf (row_seen c.args.first.now) in
    let pair = c.in_ok-push_against.ensures (row_seen c.args.first.now) c.in_ok-first.ensures in
    subst (Gathers P rows (seen_rows (drop (c.loop-other.other-index + 1) all))) (sym pair.2)
    (gathers_more P rows (seen_rows (drop c.loop-other.other-index all)) (seen_rows (drop (c.loop-other.other-index + 1) all)) (row_seen c.other-item.result.now) c.loop-other.text.items pair.0
    (ap seen_rows (drop_more all c.loop-other.other-index c.other-item.result c.loop-other-test.true) ∙ ap (λ r. row_seen r.now ∷ seen_rows (drop (c.loop-other.other-index + 1) all)) (sym c.other-item.is)) pair.1 c.loop-other.invariant)

pub returns : goal.returns
returns c =
    let all = c.args.others.now in
    let P = IsPairOf (row_seen c.args.first.now) in
    gathers_all P (seen_rows all) (seen_rows (drop c.loop-other.other-index all)) c.loop-other.text.items (ap seen_rows (drop_all c.loop-other.other-index all c.loop-other-test.false)) c.loop-other.invariant
