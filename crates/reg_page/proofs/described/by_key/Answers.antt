use Rattle.std.proofs.Common.{rules, subst}
use Rattle.std.proofs.lemmas.List.Sorted.{answers_always, IsPermutation-map}
use Rattle.std.specs.Borrow.{Bor}
use Rattle.std.specs.List.Sorted.{IsPermutation}
use Rattle.std.specs.Ordering.{is_lt}
use Rattle.reg_page.specs.declared.described.Described.{Described}
use Rattle.reg_page.specs.Descriptions.{described_cmp, at}
use Rattle.reg_page.proofs.DescribeLemmas.{by_described, sorted_at}
use Rattle.reg_page.proofs.described.by_key.Goals as goal

pub returns : goal.returns
returns c = record {
  same = subst (λ l. IsPermutation l (at c.sort_unstable_by.new.self.items)) c.in_ok-made.ensures
      (IsPermutation-map (λ (t : Bor Described). t.now) c.in_ok-made.made.items c.sort_unstable_by.new.self.items c.sort_unstable_by.ensures.permutation);
  sorted = sorted_at c.sort_unstable_by.new.self.items (c.sort_unstable_by.ensures.sorted (λ (a b : Bor Described). is_lt (described_cmp a.now b.now)) by_described (answers_always _ _ _ (λ f a r g h. search rules)));
}
