use Rattle.std.proofs.Common.{map, ap, sym, subst}
use Rattle.reg_report.specs.Seen.{row_seen}
use Rattle.reg_texts.specs.Said.{said}
use Rattle.reg_texts.specs.Gathered.{AreOfRow}
use Rattle.reg_texts.proofs.EachLemmas.{Gathers, gathers_none, gathers_more, gathers_all}
use Rattle.reg_texts.proofs.gathering.sayings.Goals as goal
use Rattle.reg_keys.proofs.NamedLemmas.{nothing_left}

pub loop-row-init : goal.loop-row-init
loop-row-init c =
    let rows = map row_seen c.args.rows.now in
    subst (Gathers (AreOfRow rows) rows rows) (sym (ap (map said) c.new-made.ensures.items)) (gathers_none (AreOfRow rows) rows)

pub loop-row-preserved : goal.loop-row-preserved
loop-row-preserved c =
    let rows = map row_seen c.args.rows.now in
    let mine = c.in_ok-push_row.ensures in
    subst (Gathers (AreOfRow rows) rows (map row_seen c.in-Some.others.now)) (sym mine.2)
    (gathers_more (AreOfRow rows) rows (map row_seen c.loop-row.rest.now) (map row_seen c.in-Some.others.now) (row_seen c.in-Some.row.now) (map said c.loop-row.made.items) mine.0
    (ap (map row_seen) c.in-Some.ensures.cases.0) mine.1 c.loop-row.invariant)

pub returns : goal.returns
returns c =
    let rows = map row_seen c.args.rows.now in
    gathers_all (AreOfRow rows) rows (map row_seen c.loop-row.rest.now) (map said c.loop-row.made.items) (nothing_left row_seen c.loop-row.rest.now c.in_default.ensures.cases) c.loop-row.invariant
