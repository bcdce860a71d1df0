use Rattle.std.proofs.Common.{◌+◌, ◌++◌, take, drop, map, subst, sym, ap, ◌∙◌}
use Rattle.reg_export.specs.Geojson.{AreFeaturesOf}
use Rattle.reg_export.specs.Kept.{row_at}
use Rattle.reg_engine.specs.declared.fault.CliFault.TheVariants as cli
use Rattle.reg_export.proofs.WrittenLemmas.{left}
use Rattle.reg_export.proofs.BeginLemmas.{HasFeatures, before_more, both_parts, features_more, features_passed, features_cut}
use Rattle.reg_export.proofs.geojson.write_rows.Goals as goal

pub returns-in-Err-clause-fault : goal.returns-in-Err-clause-fault
returns-in-Err-clause-fault g c =
    features_cut (map row_at (drop c.loop-row.row-index c.args.rows.now)) cli.Memory c.loop-row.invariant (both_parts row_at c.args.rows.now c.loop-row.row-index) (left c.loop-row.invariant.so_far)

pub returns-in-Err-pass_enough-clause-fault : goal.returns-in-Err-pass_enough-clause-fault
returns-in-Err-pass_enough-clause-fault g c =
    let rows = c.args.rows.now in
    let i = c.loop-row.row-index in
    let pushed = c.in-Ok.ensures in
    let gives = subst (λ r. AreFeaturesOf (row_at r) pushed.0) c.row-item.is pushed.1 in
    let has = features_more _ pushed.0 c.in-Ok.more c.loop-row.invariant gives pushed.2 pushed.3 in
    let split = ap (λ l. l ++ map row_at (drop (i + 1) rows)) (sym (before_more row_at rows i _ c.loop-row-test.true)) ∙ both_parts row_at rows (i + 1) in
    features_cut (map row_at (drop (i + 1) rows)) c.in-Err-pass_enough.fault has split (c.in-Err-pass_enough.ensures.fault _ _ has.so_far)

pub loop-row-preserved : goal.loop-row-preserved
loop-row-preserved g c =
    let rows = c.args.rows.now in
    let i = c.loop-row.row-index in
    let pushed = c.in-Ok.ensures in
    let gives = subst (λ r. AreFeaturesOf (row_at r) pushed.0) c.row-item.is pushed.1 in
    let has = features_more _ pushed.0 c.in-Ok.more c.loop-row.invariant gives pushed.2 pushed.3 in
    let after = features_passed has (c.in-Ok-pass_enough.ensures.passed _ _ has.so_far) in
    subst (λ l. HasFeatures c.args.waiting.now.items l (g.K.Sink.state c.args.sink.now) (g.K.Sink.state c.pass_enough.new.sink) c.pass_enough.new.waiting.items c.in-Ok.more c.in-Ok-pass_enough.total)
    (sym (before_more row_at rows i _ c.loop-row-test.true)) after
