use Rattle.std.proofs.Common.{rules, not}
use Rattle.std.proofs.lemmas.Fn.{filter_same}
use Rattle.reg_op.specs.Operations.{Op, replaces}
use Rattle.reg_state.proofs.table.remove_replaced.Goals as goal

pub returns-then-some-clause-items : goal.returns-then-some-clause-items
returns-then-some-clause-items c = filter_same _ (λ (o : Op). not (replaces c.args.op.now o)) _ (λ x b f' k. search rules) _ _ c.retain.ensures.filtered
