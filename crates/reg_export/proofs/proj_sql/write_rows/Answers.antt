use Rattle.std.proofs.Common.{◌+◌, ◌++◌, take, drop, map, subst, sym, ap, ◌∙◌}
use Rattle.reg_export.specs.Kept.{row_at}
use Rattle.reg_engine.specs.declared.fault.CliFault.TheVariants as cli
use Rattle.reg_export.proofs.WrittenLemmas.{left}
use Rattle.reg_export.proofs.BeginLemmas.{GivesAfter, HasStatements, before_more, both_parts, statements_more, statements_passed, statements_cut}
use Rattle.reg_export.proofs.proj_sql.write_rows.Goals as goal

pub returns-in-Err-clause-fault : goal.returns-in-Err-clause-fault
returns-in-Err-clause-fault g c =
    statements_cut (map row_at (drop c.loop-row.row-index c.args.rows.now)) cli.Memory c.loop-row.invariant (both_parts row_at c.args.rows.now c.loop-row.row-index) (left c.loop-row.invariant.so_far)

pub returns-in-Err-pass_enough-clause-fault : goal.returns-in-Err-pass_enough-clause-fault
returns-in-Err-pass_enough-clause-fault g c =
    let rows = c.args.rows.now in
    let i = c.loop-row.row-index in
    let has = c.loop-row.invariant in
    let gives = subst (λ r. GivesAfter c.args.all (row_at r) c.push_row.new.held c.loop-row.waiting.items c.push_row.new.text.items has.fs) c.row-item.is (c.in_default.ensures has.fs has.holds) in
    let later = statements_more {then = c.push_row.new.held} _ has gives in
    let split = ap (λ l. l ++ map row_at (drop (i + 1) rows)) (sym (before_more row_at rows i _ c.loop-row-test.true)) ∙ both_parts row_at rows (i + 1) in
    statements_cut (map row_at (drop (i + 1) rows)) c.in-Err-pass_enough.fault later split (c.in-Err-pass_enough.ensures.fault _ _ later.so_far)

pub loop-row-preserved : goal.loop-row-preserved
loop-row-preserved g c =
    let rows = c.args.rows.now in
    let i = c.loop-row.row-index in
    let has = c.loop-row.invariant in
    let gives = subst (λ r. GivesAfter c.args.all (row_at r) c.push_row.new.held c.loop-row.waiting.items c.push_row.new.text.items has.fs) c.row-item.is (c.in_default.ensures has.fs has.holds) in
    let later = statements_more {then = c.push_row.new.held} _ has gives in
    let after = statements_passed later (c.in-Ok.ensures.passed _ _ later.so_far) in
    subst (λ l. HasStatements c.args.waiting.now.items c.args.all l c.push_row.new.held (g.K.Sink.state c.args.sink.now) (g.K.Sink.state c.pass_enough.new.sink) c.pass_enough.new.waiting.items c.in-Ok.total)
    (sym (before_more row_at rows i _ c.loop-row-test.true)) after
