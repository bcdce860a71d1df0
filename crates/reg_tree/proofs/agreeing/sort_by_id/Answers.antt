use Rattle.std.proofs.Common.{rules}
use Rattle.std.specs.Borrow.{Bor}
use Rattle.std.proofs.lemmas.List.Sorted.{answers_always}
use Rattle.reg_op.specs.Operations.{Op}
use Rattle.reg_tree.proofs.agreeing.sort_by_id.Goals as goal

pub returns-clause-sorted : goal.returns-clause-sorted
returns-clause-sorted c = c.in_ok-sort_by_key.ensures.sorted (λ (o : Bor Op). o.now.id) (answers_always _ _ _ (λ f a r g h. search rules))
