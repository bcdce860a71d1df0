use Rattle.std.proofs.Common.{◌≡◌, ◌+◌, ◌++◌, map, take, sym, ap, ◌∙◌, subst}
use Rattle.std.proofs.lemmas.List.{take_all}
use Rattle.std.specs.List.{prefix_len}
use Rattle.reg_op.specs.Lists.{ById}
use Rattle.reg_op.specs.Operations.{Op}
use Rattle.reg_op.specs.Rows.{rows_at}
use Rattle.reg_report.specs.Marks.{is_on, AreMarksOn}
use Rattle.reg_report.specs.Seen.{row_seen}
use Rattle.reg_report.proofs.EntryLemmas.{rows_in}
use Rattle.reg_report.proofs.MarkLemmas.{IsLeft, from, all_left, left_on, own_marks}
use Rattle.reg_report.proofs.PairLemmas.{is_member}
use Rattle.reg_report.proofs.RowLemmas.{made_ascend}
use Rattle.reg_report.proofs.ShownLemmas.{one_more}
use Rattle.reg_report.proofs.row.rows.Goals as goal

pub loop-op-init : goal.loop-op-init
loop-op-init c = (
  ap (map row_seen) c.new-made.ensures.items,
  subst (IsLeft c.as_slice-ops.result.now 0) (sym c.deref-rest.ensures.value) (all_left c.in_ok-marks.marks.items c.as_slice-ops.result.now c.in_ok-marks.ensures.sorted c.in_ok-marks.ensures.marks),
)

pub loop-op-preserved : goal.loop-op-preserved
loop-op-preserved c =
    let s = c.args.register.now.ops in
    let os = c.as_slice-ops.result.now in
    let i = c.loop-op.op-index in
    let o = c.op-item.result in
    let rest = c.loop-op.rest.now in
    let is = c.as_slice-ops.ensures ∙ c.ops.ensures.items in
    let left = c.skip_below-rest.ensures ∙ (λ k. from (c.id.ensures.value k) rest) in
    let leads = c.leading.ensures ∙ (λ k. take (prefix_len (is_on (c.id-in-loop-op.ensures.value k)) (left k)) (left k)) in
    let own = subst (AreMarksOn s o.id) (sym leads) (own_marks rest os i o c.loop-op-test.true c.op-item.is c.loop-op.invariant.1 s is) in (
      c.in_ok-push_row.ensures s (is_member s os i o is c.loop-op-test.true c.op-item.is) own ∙ ap (λ l. l ++ rows_at s o.id o.body) c.loop-op.invariant.0
          ∙ sym (one_more (λ (p : Op). rows_at s p.id p.body) os i o c.loop-op-test.true c.op-item.is),
      subst (IsLeft os (i + 1)) (sym left) (left_on rest os i o c.loop-op-test.true c.op-item.is c.loop-op.invariant.1 (subst ById (sym c.as_slice-ops.ensures) c.ops.ensures.by_id)),
    )

pub returns-clause-rows : goal.returns-clause-rows
returns-clause-rows c =
    let s = c.args.register.now.ops in
    let os = c.as_slice-ops.result.now in
    c.loop-op.invariant.0 ∙ ap (rows_in s) (take_all c.loop-op.op-index os c.loop-op-test.false ∙ c.as_slice-ops.ensures ∙ c.ops.ensures.items)

pub returns-clause-order : goal.returns-clause-order
returns-clause-order c =
    made_ascend c.args.register.now c.as_slice-ops.result.now c.loop-op.op-index c.loop-op.made.items (c.as_slice-ops.ensures ∙ c.ops.ensures.items) c.loop-op-test.false c.loop-op.invariant.0 c.ops.ensures.content
