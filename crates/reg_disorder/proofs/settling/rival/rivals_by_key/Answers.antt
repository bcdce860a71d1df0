use Rattle.std.proofs.Common.{rules, map, subst}
use Rattle.std.proofs.lemmas.List.Sorted.{answers_always, IsPermutation-sym}
use Rattle.reg_report.specs.Seen.{row_seen}
use Rattle.reg_disorder.specs.declared.settling.rival.Rival.{Rival}
use Rattle.reg_disorder.specs.Keeping.{AreRivals}
use Rattle.reg_disorder.proofs.Candidates.{in_other_order, in_order_is}
use Rattle.reg_disorder.proofs.settling.rival.rivals_by_key.Goals as goal

pub returns : goal.returns
returns c =
    let rows = map row_seen c.args.rows.now in
    let sorted = c.in_ok-keeps.keeps.items in
    let all = c.in_ok-made.made.items in
    record {
      sorted = c.in_ok-sort_by_key.ensures.sorted (λ (r : Rival). r.key) (answers_always _ _ _ (λ f a r g h. search rules));
      all = all;
      are = in_other_order sorted c.args.keeps.now (IsPermutation-sym c.args.keeps.now sorted c.in_ok-keeps.ensures.permutation) rows all (subst (λ l. AreRivals l rows all) c.deref.ensures.value c.in_ok-made.ensures);
      in_order = in_order_is all c.sort_by_key.new.self.items (c.in_ok-sort_by_key.ensures.stable (λ (r : Rival). r.key) (answers_always _ _ _ (λ f a r g h. search rules)));
    }
