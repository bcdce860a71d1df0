use Rattle.std.proofs.Common.{rules, subst}
use Rattle.std.proofs.lemmas.List.Sorted.{answers_always}
use Rattle.std.specs.List.Sorted.{IsStableByKey}
use Rattle.reg_op.specs.Ids.{id_cmp}
use Rattle.reg_page.specs.Page.{subject}
use Rattle.reg_page.proofs.acts.acts_by_entry.Goals as goal

pub returns-clause-sorted : goal.returns-clause-sorted
returns-clause-sorted c = c.in_ok-sort_by_key.ensures.sorted subject (answers_always _ _ _ (λ f a r g h. search rules))

pub returns-clause-same : goal.returns-clause-same
returns-clause-same c =
    subst (λ os. IsStableByKey subject id_cmp os c.sort_by_key.new.self.items) c.in_ok-made.ensures (c.in_ok-sort_by_key.ensures.stable subject (answers_always _ _ _ (λ f a r g h. search rules)))
