use Rattle.std.proofs.Common.{List, map, take}
use Rattle.reg_op.specs.Rows.{Row}
use Rattle.reg_report.specs.Seen.{row_seen}
use Rattle.reg_disorder.specs.Keys.{HasLiveKeys}
use Rattle.reg_disorder.proofs.KeyLemmas.{no_keys, keys_more}
use Rattle.reg_disorder.proofs.RowLemmas.{rows_more, rows_all}
use Rattle.reg_disorder.proofs.withdrawn.live_keys.Goals as goal

pub loop-row-init : goal.loop-row-init
loop-row-init c = no_keys c.new-live.result c.new-live.ensures.empty

pub loop-row-preserved : goal.loop-row-preserved
loop-row-preserved c =
    rows_more (λ (rs : List Row). HasLiveKeys rs c.put_row.new.live) c.args.rows.now c.loop-row.row-index c.row-item.result c.loop-row-test.true c.row-item.is
    (keys_more (map row_seen (take c.loop-row.row-index c.args.rows.now)) (row_seen c.row-item.result) c.loop-row.live c.put_row.new.live c.in_ok-put_row.ensures c.loop-row.invariant)

pub returns : goal.returns
returns c = rows_all (λ (rs : List Row). HasLiveKeys rs c.loop-row.live) c.args.rows.now c.loop-row.row-index c.loop-row-test.false c.loop-row.invariant
