use Rattle.std.proofs.Common.{map, sym, subst}
use Rattle.std.specs.Prelude.{Contains, ◌↔◌}
use Rattle.std.proofs.lemmas.List.Filters.{dedup_is}
use Rattle.reg_op.specs.Set.{Ascends}
use Rattle.reg_report.specs.Seen.{row_seen}
use Rattle.reg_disorder.specs.Marks.{Mark, mark_cmp, mark_seen, IsMark}
use Rattle.reg_disorder.proofs.MarkLemmas.{gains_all}
use Rattle.reg_disorder.proofs.MarkOrder.{in_order, items_ascend, in_items}
use Rattle.reg_disorder.proofs.mark.marks.Goals as goal

pub returns : goal.returns
returns c =
    let xs = c.in_ok-made.made.items in
    let zs = c.dedup.new.self.items in
    let rs = map row_seen c.args.rows.now in
    let is = in_order xs c.sort_unstable.new.self.items zs c.sort_unstable.ensures.permutation c.sort_unstable.ensures.sorted (dedup_is _ _ _ c.dedup.ensures.filtered) in
    let all = gains_all (IsMark rs) (map mark_seen xs) c.in_ok-made.ensures in
    record {
      ascend = subst (Ascends mark_cmp) (sym is) (items_ascend (map mark_seen xs));
      each = λ m. subst (λ l. Contains l m ↔ IsMark rs m) (sym is) (λ h. (all m).0 ((in_items (map mark_seen xs) m).0 h), λ p. (in_items (map mark_seen xs) m).1 ((all m).1 p));
    }
