use Rattle.std.proofs.Common.{List, ℕ, ◌++◌, ◌∷◌, [], sym, ap, ◌∙◌, arith}
use Rattle.std.proofs.lemmas.Result.{on_ok_weaker}
use Rattle.wkt_write.proofs.Marks.{step, no_mark, ok_items}
use Rattle.wkt_write.proofs.leaves.push_doubled.Goals as goal

pub loop-mark-preserved : goal.loop-mark-preserved
loop-mark-preserved c = (
  step _ _ _ c.loop-mark.rest.now c.split_at.result.0.now c.split_at.result.1.now c.in-Some.mark (sym c.first_mark.ensures.first ∙ c.in-Some.is) c.split_at.ensures.front c.split_at.ensures.back
      (c.in_ok-push.ensures.items ∙ ap (λ (l : List ℕ). l ++ 34 ∷ []) c.in_ok-extend_from_slice.ensures.items) c.loop-mark.invariant.0,
  omega (arith, c.split_at.ensures.back_len, c.loop-mark.invariant.1),
)

pub returns : goal.returns
returns c =
    on_ok_weaker c.extend_from_slice-2.result
    (λ e. e ∙ (ap (λ (l : List ℕ). c.loop-mark.out.items ++ l) (sym (no_mark c.loop-mark.rest.now (sym c.first_mark.ensures.first ∙ c.in_default.is))) ∙ c.loop-mark.invariant.0))
    (ok_items c.extend_from_slice-2.result _ _ _ c.extend_from_slice-2.ensures.items)
