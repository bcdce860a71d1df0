use Rattle.std.proofs.Common.{cond, Some, sym, ap, ◌∙◌}
use Rattle.std.specs.List.{find}
use Rattle.std.specs.Option.{option_map}
use Rattle.reg_op.specs.Operations.{Op}
use Rattle.reg_state.specs.Merge.{first_off, is_marked_off}
use Rattle.reg_state.proofs.TableLemmas.{sound_more, sound_end}
use Rattle.reg_state.proofs.table.first_replaced.Goals as goal

pub returns-then-is_replaced-clause-value : goal.returns-then-is_replaced-clause-value
returns-then-is_replaced-clause-value c =
    let ms = c.args.marks.now in
    ap Some c.id-id.ensures.value
    ∙ sym (λ k. option_map (λ (o : Op). o.id) (cond ((sym c.is_replaced.ensures ∙ c.if-is_replaced.true) k) (Some c.in-Some.op.now) (find (is_marked_off ms) c.in-Some.others.now)))
    ∙ sym (ap (first_off ms) c.in-Some.ensures.cases.0)
    ∙ c.loop-op.invariant.same

pub loop-op-preserved : goal.loop-op-preserved
loop-op-preserved c =
    let ms = c.args.marks.now in
    record {
      same =
          sym (λ k. option_map (λ (o : Op). o.id) (cond ((sym c.is_replaced.ensures ∙ c.if-is_replaced.false) k) (Some c.in-Some.op.now) (find (is_marked_off ms) c.in-Some.others.now)))
          ∙ sym (ap (first_off ms) c.in-Some.ensures.cases.0)
          ∙ c.loop-op.invariant.same;
      sound = λ rest. c.loop-op.invariant.sound (sound_more _ _ c.in-Some.op.now c.in-Some.ensures.cases.0 c.id-id.ensures.operation rest);
    }

pub returns-clause-operations : goal.returns-clause-operations
returns-clause-operations c = c.loop-op.invariant.sound (sound_end _ c.in_default.ensures.cases)
