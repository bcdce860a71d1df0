use Rattle.std.proofs.Common.{rules}
use Rattle.std.proofs.lemmas.List.Sorted.{answers_always}
use Rattle.std.specs.Borrow.{Bor}
use Rattle.std.specs.Ordering.{is_lt}
use Rattle.reg_page.specs.declared.described.Described.{Described}
use Rattle.reg_page.specs.SameTexts.{text_cmp}
use Rattle.reg_page.proofs.SameTextLemmas.{by_texts, kept}
use Rattle.reg_page.proofs.same.by_text.Goals as goal

pub returns-clause-sorted : goal.returns-clause-sorted
returns-clause-sorted c = c.in_ok-sort_by.ensures.sorted (λ (a b : Bor Described). is_lt (text_cmp a.now b.now)) by_texts (answers_always _ _ _ (λ f a r g h. search rules))

pub returns-clause-same : goal.returns-clause-same
returns-clause-same c =
    kept c.args.entries.items c.sort_by.new.self.items (c.in_ok-sort_by.ensures.stable (λ (a b : Bor Described). is_lt (text_cmp a.now b.now)) by_texts (answers_always _ _ _ (λ f a r g h. search rules)))
