use Rattle.std.proofs.Common.{map, ap, sym, subst}
use Rattle.reg_report.specs.Seen.{row_seen}
use Rattle.reg_texts.specs.Compare.{IsChosen, seen_rows}
use Rattle.reg_texts.proofs.EachLemmas.{Gathers, gathers_none, gathers_more, gathers_all}
use Rattle.reg_texts.proofs.choice.chosen.Goals as goal
use Rattle.reg_keys.proofs.NamedLemmas.{nothing_left}

pub loop-row-init : goal.loop-row-init
loop-row-init g c =
    let rows = map row_seen c.args.rows.now in
    let P = IsChosen (g.C.RowFilter.wants c.args.choice.now) in
    subst (Gathers P rows rows) (sym (ap seen_rows c.new-found.ensures.items)) (gathers_none P rows)

pub loop-row-preserved : goal.loop-row-preserved
loop-row-preserved g c =
    let rows = map row_seen c.args.rows.now in
    let P = IsChosen (g.C.RowFilter.wants c.args.choice.now) in
    let mine = c.in_ok-push_chosen.ensures in
    subst (Gathers P rows (map row_seen c.in-Some.others.now)) (sym mine.2)
    (gathers_more P rows (map row_seen c.loop-row.rest.now) (map row_seen c.in-Some.others.now) (row_seen c.in-Some.row.now) (seen_rows c.loop-row.found.items) mine.0
    (ap (map row_seen) c.in-Some.ensures.cases.0) mine.1 c.loop-row.invariant)

pub returns : goal.returns
returns g c =
    let rows = map row_seen c.args.rows.now in
    gathers_all (IsChosen (g.C.RowFilter.wants c.args.choice.now)) rows (map row_seen c.loop-row.rest.now) (seen_rows c.loop-row.found.items) (nothing_left row_seen c.loop-row.rest.now c.in_default.ensures.cases) c.loop-row.invariant
