use Rattle.std.proofs.Common.{List, [], map, take, sym, subst}
use Rattle.reg_op.specs.Rows.{Row}
use Rattle.reg_report.specs.Seen.{row_seen}
use Rattle.reg_disorder.specs.declared.mark.Mark.{Mark as MadeMark}
use Rattle.reg_disorder.specs.Marks.{mark_seen, IsMarkOf, OfSome, Gains}
use Rattle.reg_disorder.proofs.MarkLemmas.{some_none, some_more}
use Rattle.reg_disorder.proofs.RowLemmas.{rows_more, rows_all}
use Rattle.reg_disorder.proofs.mark.gathered.Goals as goal

pub loop-row-init : goal.loop-row-init
loop-row-init c =
    let Of = IsMarkOf (map row_seen c.args.rows.now) in
    subst (λ (ms : List MadeMark). Gains (OfSome Of []) [] (map mark_seen ms)) (sym c.new-made.ensures.items) (some_none Of [])

pub loop-row-preserved : goal.loop-row-preserved
loop-row-preserved c =
    let Of = IsMarkOf (map row_seen c.args.rows.now) in
    let new = map mark_seen c.push_marks.new.made.items in
    rows_more (λ (rs : List Row). Gains (OfSome Of rs) [] new) c.args.rows.now c.loop-row.row-index c.row-item.result c.loop-row-test.true c.row-item.is
    (some_more Of (map row_seen (take c.loop-row.row-index c.args.rows.now)) (row_seen c.row-item.result) [] (map mark_seen c.loop-row.made.items) new c.loop-row.invariant c.in_ok-push_marks.ensures)

pub returns : goal.returns
returns c =
    let Of = IsMarkOf (map row_seen c.args.rows.now) in
    rows_all (λ (rs : List Row). Gains (OfSome Of rs) [] (map mark_seen c.loop-row.made.items)) c.args.rows.now c.loop-row.row-index c.loop-row-test.false c.loop-row.invariant
