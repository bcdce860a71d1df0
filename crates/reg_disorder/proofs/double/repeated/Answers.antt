use Rattle.std.proofs.Common.{List, map, take}
use Rattle.reg_op.specs.Rows.{Row}
use Rattle.reg_report.specs.Seen.{row_seen}
use Rattle.reg_disorder.specs.Texts.{HasSome, HasSeveral}
use Rattle.reg_disorder.proofs.RowLemmas.{rows_more, rows_all}
use Rattle.reg_disorder.proofs.TextLemmas.{gathered_more, nothing_gathered}
use Rattle.reg_disorder.proofs.double.repeated.Goals as goal

pub loop-row-init : goal.loop-row-init
loop-row-init c = nothing_gathered c.new-seen.result c.new-several.result c.new-seen.ensures.empty c.new-several.ensures.empty

pub loop-row-preserved : goal.loop-row-preserved
loop-row-preserved c =
    rows_more (λ (rs : List Row). HasSome rs c.put_row.new.seen × HasSeveral rs c.put_row.new.several) c.args.rows.now c.loop-row.row-index c.row-item.result c.loop-row-test.true c.row-item.is
    (gathered_more (map row_seen (take c.loop-row.row-index c.args.rows.now)) (row_seen c.row-item.result) c.loop-row.seen c.loop-row.several c.put_row.new.seen c.put_row.new.several c.in_ok-put_row.ensures c.loop-row.invariant)

pub returns : goal.returns
returns c = (rows_all (λ (rs : List Row). HasSome rs c.loop-row.seen × HasSeveral rs c.loop-row.several) c.args.rows.now c.loop-row.row-index c.loop-row-test.false c.loop-row.invariant).1
