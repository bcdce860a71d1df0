use Rattle.std.proofs.Common.{◌&&◌, ◌||◌, is_some, None, sym, ap, ◌∙◌}
use Rattle.reg_op.specs.Finite.{any}
use Rattle.reg_state.specs.declared.mark.Mark.{Mark}
use Rattle.reg_state.specs.MarkSets.{is_at}
use Rattle.reg_state.proofs.InsertLemmas.{any_lessens}
use Rattle.reg_state.proofs.mark_set.Marks.lessens.Goals as goal

pub returns-then-has_earlier : goal.returns-then-has_earlier
returns-then-has_earlier c =
    let s = c.args.self.now in
    let m : Mark = c.args.mark.now in
    sym (any_lessens s m ∙ ap (λ b. b || (is_some m.target.by && any (λ p. is_at (record { entry = m.target.entry; by = None }) p) s)) (sym c.has_earlier.ensures ∙ c.if-has_earlier.true))

pub returns-in-None : goal.returns-in-None
returns-in-None c =
    let s = c.args.self.now in
    let m : Mark = c.args.mark.now in
    sym (any_lessens s m
    ∙ (λ k. (sym c.has_earlier.ensures ∙ c.if-has_earlier.false) k || (is_some (c.in-None.is k) && any (λ p. is_at (record { entry = m.target.entry; by = None }) p) s)))

pub returns-in-Some : goal.returns-in-Some
returns-in-Some c =
    let s = c.args.self.now in
    let m : Mark = c.args.mark.now in
    c.is_retired.ensures
    ∙ sym (any_lessens s m
    ∙ (λ k. (sym c.has_earlier.ensures ∙ c.if-has_earlier.false) k || (is_some (c.in-Some.is k) && any (λ p. is_at (record { entry = m.target.entry; by = None }) p) s)))
