use Rattle.std.proofs.Common.{List, ap, ◌∙◌}
use Rattle.std.proofs.lemmas.Result.{IfOk-weaker}
use Rattle.reg_op.specs.Set as set
use Rattle.reg_state.specs.declared.mark.Mark.{Mark}
use Rattle.reg_state.specs.MarkSets.{mark_cmp, least}
use Rattle.reg_state.proofs.MarkLemmas.{marks_whole}
use Rattle.reg_state.proofs.marks.marks_of.Goals as goal

pub returns : goal.returns
returns c =
    IfOk-weaker c.of.result _ _
    (λ made e. e ∙ ap (λ (ms : List Mark). least (set.from_list {R = mark_cmp} ms)) (marks_whole c.loop-rest.marks.items c.loop-rest.rest.now _ c.in_default.len_below c.loop-rest.invariant))
    c.of.ensures
