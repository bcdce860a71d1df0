use Rattle.std.proofs.Common.{List, [], map, take, sym, subst}
use Rattle.reg_op.specs.Rows.{Row}
use Rattle.reg_report.specs.Seen.{row_seen}
use Rattle.reg_disorder.specs.declared.listed.ListedEntry.{ListedEntry}
use Rattle.reg_disorder.specs.Disorders.{IsDangling}
use Rattle.reg_disorder.specs.Heirs.{AreValid}
use Rattle.reg_disorder.specs.Lists.{listed_seen, AreOf}
use Rattle.reg_disorder.proofs.ListLemmas.{of_none, of_more}
use Rattle.reg_disorder.proofs.RowLemmas.{rows_more, rows_all}
use Rattle.reg_disorder.proofs.dangling.dangling.Goals as goal

pub with_heirs-requires-clause-valid : goal.with_heirs-requires-clause-valid
with_heirs-requires-clause-valid c = subst (AreValid (map row_seen c.args.rows.now)) (sym c.deref.ensures.value) c.in_ok-valid.ensures.valid

pub loop-row-init : goal.loop-row-init
loop-row-init c = subst (λ (ls : List ListedEntry). AreOf (IsDangling (map row_seen c.args.rows.now)) [] (map listed_seen ls)) (sym c.new-made.ensures.items) (of_none (IsDangling (map row_seen c.args.rows.now)))

pub loop-row-preserved : goal.loop-row-preserved
loop-row-preserved c =
    let all = map row_seen c.args.rows.now in
    let r = row_seen c.row-item.result in
    let old = map listed_seen c.loop-row.made.items in
    let new = map listed_seen c.push_where.new.made.items in
    rows_more (λ (rs : List Row). AreOf (IsDangling all) rs new) c.args.rows.now c.loop-row.row-index c.row-item.result c.loop-row-test.true c.row-item.is
    (of_more (IsDangling all) (map row_seen (take c.loop-row.row-index c.args.rows.now)) r c.is_dangling-wanted.result old new (c.is_dangling-wanted.ensures all (subst (AreValid all) (sym c.deref-in-loop-row.ensures.value) c.in_ok-valid.ensures.valid) c.in_ok-found.ensures) c.in_ok-push_where.ensures c.loop-row.invariant)

pub returns : goal.returns
returns c = rows_all (λ (rs : List Row). AreOf (IsDangling (map row_seen c.args.rows.now)) rs (map listed_seen c.loop-row.made.items)) c.args.rows.now c.loop-row.row-index c.loop-row-test.false c.loop-row.invariant
