use Rattle.std.proofs.Common.{List, sym, ap, ◌∙◌, subst}
use Rattle.std.specs.List.{insert}
use Rattle.reg_state.specs.declared.mark.Mark.{Mark}
use Rattle.reg_state.specs.MarkSets.{AreLeast}
use Rattle.reg_state.proofs.InsertLemmas.{needless, uncovered, uncovered_sorted, put_is, put_marks}
use Rattle.reg_state.proofs.mark_set.Marks.insert.Goals as goal

pub returns-then-lessens-clause-ok : goal.returns-then-lessens-clause-ok
returns-then-lessens-clause-ok c =
    needless c.args.self.now c.args.mark (subst AreLeast c.self.view_is c.self.invariant.are_least) (sym c.lessens.ensures ∙ c.if-lessens.true)

pub put_in_place-requires-clause-sorted : goal.put_in_place-requires-clause-sorted
put_in_place-requires-clause-sorted c =
    uncovered_sorted c.args.mark.target c.self.inside.marks.items _ c.self.invariant.sorted
    (c.remove_covered.ensures.items ∙ ap (uncovered c.args.mark.target) c.in_ok-reserve.ensures.items)

pub invariant_of-self-2 : goal.invariant_of-self-2
invariant_of-self-2 c =
    let put = c.put_in_place.ensures.put in
    put_marks c.self.inside.marks.items _ c.args.self.now put.0 c.args.mark c.self.invariant c.self.view_is (sym c.lessens.ensures ∙ c.if-lessens.false)
    (put.1 ∙ ap (λ (l : List Mark). insert l put.0 c.args.mark) (c.remove_covered.ensures.items ∙ ap (uncovered c.args.mark.target) c.in_ok-reserve.ensures.items))
    c.put_in_place.ensures.sorted

pub returns-clause-ok : goal.returns-clause-ok
returns-clause-ok c =
    let put = c.put_in_place.ensures.put in
    put_is c.self.inside.marks.items _ c.args.self.now put.0 c.args.mark c.self.invariant c.self.view_is (sym c.lessens.ensures ∙ c.if-lessens.false)
    (put.1 ∙ ap (λ (l : List Mark). insert l put.0 c.args.mark) (c.remove_covered.ensures.items ∙ ap (uncovered c.args.mark.target) c.in_ok-reserve.ensures.items))
