use Rattle.std.proofs.Common.{List, [], map, take, sym, subst}
use Rattle.reg_op.specs.Rows.{Row}
use Rattle.reg_report.specs.Seen.{row_seen}
use Rattle.reg_disorder.specs.Heirs.{AreValid}
use Rattle.reg_disorder.proofs.HeirLemmas.{none_valid, valid_more, valid_sorted}
use Rattle.reg_disorder.proofs.RowLemmas.{rows_more, rows_all}
use Rattle.reg_disorder.proofs.heir.valid_of.Goals as goal

pub loop-row-init : goal.loop-row-init
loop-row-init c = subst (AreValid []) (sym c.new-made.ensures.items) none_valid

pub loop-row-preserved : goal.loop-row-preserved
loop-row-preserved c =
    rows_more (λ (rs : List Row). AreValid rs c.push_valid.new.ids.items) c.args.rows.now c.loop-row.row-index c.row-item.result c.loop-row-test.true c.row-item.is
    (valid_more (map row_seen (take c.loop-row.row-index c.args.rows.now)) (row_seen c.row-item.result) c.loop-row.made.items c.push_valid.new.ids.items c.in_ok-push_valid.ensures c.loop-row.invariant)

pub returns-clause-valid : goal.returns-clause-valid
returns-clause-valid c =
    valid_sorted (map row_seen c.args.rows.now) c.loop-row.made.items c.sort_unstable.new.self.items c.sort_unstable.ensures.permutation
    (rows_all (λ (rs : List Row). AreValid rs c.loop-row.made.items) c.args.rows.now c.loop-row.row-index c.loop-row-test.false c.loop-row.invariant)
