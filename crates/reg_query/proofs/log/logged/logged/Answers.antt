use Rattle.std.proofs.Common.{filter, rules, ap, ◌∙◌, subst}
use Rattle.std.proofs.lemmas.List.Sorted.{answers_always}
use Rattle.std.specs.List.Sorted.{IsPermutation}
use Rattle.std.specs.Ordering.{is_lt}
use Rattle.reg_op.specs.Operations.{Op}
use Rattle.reg_query.specs.Asked.{is_asked}
use Rattle.reg_query.specs.Log.{subject, log_cmp}
use Rattle.reg_query.proofs.LogLemmas.{by_log}
use Rattle.reg_query.proofs.log.logged.logged.Goals as goal

pub returns : goal.returns
returns c = record {
  all = subst (λ xs. IsPermutation xs c.sort_unstable_by.new.self.items)
      (c.in_ok-made.ensures c.args.asked.now c.in_ok-wanted.ensures ∙ ap (filter (λ (o : Op). is_asked c.args.asked.now (subject o))) (c.as_slice-ops.ensures ∙ c.ops.ensures.items))
      c.sort_unstable_by.ensures.permutation;
  sorted = c.sort_unstable_by.ensures.sorted (λ a b. is_lt (log_cmp a b)) by_log (answers_always _ _ _ (λ f a r g h. search rules));
}
