use Rattle.std.proofs.Common.{◌≡◌, ◌+◌, ◌++◌, [], List, append-nil, cond, map, take, sym, ap, ◌∙◌, subst}
use Rattle.std.specs.List.{prefix_len, flat_map}
use Rattle.reg_op.specs.Ids.{Id}
use Rattle.reg_op.specs.Operations.{Op}
use Rattle.reg_op.specs.Rows.{rows_at}
use Rattle.reg_op.proofs.OpLemmas.{is_same_exact}
use Rattle.reg_report.specs.Marks.{is_on, AreMarksOn}
use Rattle.reg_report.specs.Seen.{row_seen}
use Rattle.reg_report.proofs.EntryLemmas.{rows_in, of_entry}
use Rattle.reg_report.proofs.MarkLemmas.{from, marks_in_all}
use Rattle.reg_report.proofs.PairLemmas.{is_member}
use Rattle.reg_report.proofs.ShownLemmas.{row_if, one_more, shown}
use Rattle.reg_report.proofs.one_entry.rows_of.Goals as goal
use Rattle.reg_report.proofs.one_entry.rows_of.Goals.{then-is_of+in_ok-push_row, else-is_of}

pub loop-op-preserved : goal.loop-op-preserved
loop-op-preserved c =
    let s = c.args.register.now.ops in
    let e = c.args.entry in
    let os = c.as_slice-ops.result.now in
    let i = c.loop-op.op-index in
    let o = c.op-item.result in
    let is = c.as_slice-ops.ensures ∙ c.ops.ensures.items in
    let left = c.skip_below.ensures ∙ ap (from e) c.deref.ensures.value in
    let leads = c.leading-own.ensures ∙ ap (λ l. take (prefix_len (is_on e) l) l) left in
    let own = subst (AreMarksOn s e) (sym leads) (marks_in_all e c.in_ok-marks.marks.items os c.in_ok-marks.ensures.sorted c.in_ok-marks.ensures.marks s is) in
    let next = sym (one_more (row_if s e) os i o c.loop-op-test.true c.op-item.is) in
    elim c.if-is_of.branch [
      | then-is_of+in_ok-push_row w ↦
          let same : e ≡ o.id = is_same_exact e o.id (sym c.is_of.ensures ∙ w.if-is_of.true) in
          ap (λ v. map row_seen v.items) w.made-is
          ∙ w.in_ok-push_row.ensures s (is_member s os i o is c.loop-op-test.true c.op-item.is) (subst (λ (k : Id). AreMarksOn s k c.leading-own.result.now) same own)
          ∙ (λ k. c.loop-op.invariant k ++ cond ((sym w.if-is_of.true ∙ c.is_of.ensures) k) (rows_at s o.id o.body) []) ∙ next
      | else-is_of w ↦
          ap (λ v. map row_seen v.items) w.made-is ∙ sym (append-nil (map row_seen c.loop-op.made.items))
          ∙ (λ k. c.loop-op.invariant k ++ cond ((sym w.if-is_of.false ∙ c.is_of.ensures) k) (rows_at s o.id o.body) []) ∙ next
    ]

pub returns : goal.returns
returns c =
    let s = c.args.register.now.ops in
    shown s c.args.entry c.as_slice-ops.result.now c.loop-op.op-index (map row_seen c.loop-op.made.items) c.loop-op-test.false c.loop-op.invariant
    ∙ ap (λ l. of_entry c.args.entry (rows_in s l)) (c.as_slice-ops.ensures ∙ c.ops.ensures.items)
