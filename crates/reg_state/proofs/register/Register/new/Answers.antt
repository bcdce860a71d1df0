use Rattle.std.proofs.Common.{List, ap}
use Rattle.reg_op.specs.Set as set
use Rattle.reg_op.specs.Operations.{Op}
use Rattle.reg_op.specs.Operations.{op_cmp}
use Rattle.reg_op.proofs.ContentLemmas.{same_content}
use Rattle.reg_state.proofs.TableLemmas.{tables_empty}
use Rattle.reg_state.proofs.register.Register.new.Goals as goal

pub invariant_of-result : goal.invariant_of-result
invariant_of-result c = tables_empty _ _ _ c.new.ensures.items c.new-2.ensures c.new-3.ensures

pub returns : goal.returns
returns c = same_content _ _ (ap (λ (l : List Op). set.from_list {R = op_cmp} l) c.new.ensures.items) c.new-3.ensures
