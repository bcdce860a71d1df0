use Rattle.std.proofs.Common.{rules, ◌≡◌, true, List, sym, ap, ◌∙◌, subst}
use Rattle.std.specs.List.{insert}
use Rattle.std.specs.List.Sorted.{IsSorted}
use Rattle.std.specs.Ordering.{is_lt}
use Rattle.std.proofs.lemmas.List.Sorted.{IsPartitionPoint-from_clause}
use Rattle.reg_op.proofs.PointLemmas.{parted}
use Rattle.reg_state.specs.declared.mark.Mark.{Mark}
use Rattle.reg_state.specs.MarkSets.{mark_cmp}
use Rattle.reg_state.proofs.OrderLemmas.{IsBy, marks_far}
use Rattle.reg_state.proofs.InsertLemmas.{below_chain, put_sorted}
use Rattle.reg_state.proofs.mark_set.put_in_place.Goals as goal

pub returns-clause-sorted : goal.returns-clause-sorted
returns-clause-sorted c =
    let m : Mark = c.args.mark in
    let at = c.partition_point-at.result in
    let ms : List Mark = c.deref.result.now in
    let same : c.args.marks.now.items ≡ ms = sym c.deref.ensures.value in
    let up : IsSorted mark_cmp ms = subst (IsSorted mark_cmp) same c.requires.sorted in
    let items : c.insert.new.self.items ≡ insert c.args.marks.now.items at m = search rules in
    put_sorted at ms _ m up (items ∙ ap (λ (l : List Mark). insert l at m) same)
    (IsPartitionPoint-from_clause (λ o. is_lt (mark_cmp o m)) _ _ c.partition_point-at.ensures.partitioned (parted _ (λ (o : Mark). true) IsBy ms (marks_far ms up) (below_chain m)) (λ a r q k. search rules))
