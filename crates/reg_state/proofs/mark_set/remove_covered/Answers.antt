use Rattle.std.proofs.Common.{rules, not, sym, ap, ◌∙◌}
use Rattle.std.specs.List.{list_any}
use Rattle.std.proofs.lemmas.Fn.{filter_same}
use Rattle.reg_op.specs.Lists.{passes}
use Rattle.reg_state.specs.declared.mark.Mark.{Mark}
use Rattle.reg_state.specs.MarkSets.{covers}
use Rattle.reg_state.proofs.CoverLemmas.{begins_covered}
use Rattle.reg_state.proofs.InsertLemmas.{none_covered}
use Rattle.reg_state.proofs.mark_set.remove_covered.Goals as goal

pub returns-in_default-clause-items : goal.returns-in_default-clause-items
returns-in_default-clause-items c =
    let t = c.args.target.now in
    none_covered t c.args.marks.now.items
    (ap (list_any (covers t)) (sym c.deref.ensures.value) ∙ c.first_from.ensures.told (covers t) (begins_covered t) ∙ ap (passes (covers t)) c.in_default.is)

pub returns-then-covers-clause-items : goal.returns-then-covers-clause-items
returns-then-covers-clause-items c =
    let t = c.args.target.now in
    filter_same _ (λ (m : Mark). not (covers t m)) _ (λ x b f' k. search rules) _ _ c.retain.ensures.filtered

pub returns-else-covers-clause-items : goal.returns-else-covers-clause-items
returns-else-covers-clause-items c =
    let t = c.args.target.now in
    none_covered t c.args.marks.now.items
    (ap (list_any (covers t)) (sym c.deref.ensures.value) ∙ c.first_from.ensures.told (covers t) (begins_covered t) ∙ ap (passes (covers t)) c.in-Some.is ∙ sym c.covers.ensures ∙ c.if-covers.false)
