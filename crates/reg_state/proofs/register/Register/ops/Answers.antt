use Rattle.std.proofs.Common.{sym, ap, ◌∙◌, subst}
use Rattle.reg_op.specs.Set as set
use Rattle.reg_op.specs.Lists.{ById}
use Rattle.reg_op.proofs.ClashLemmas.{items_are}
use Rattle.reg_state.proofs.register.Register.ops.Goals as goal

pub returns-clause-items : goal.returns-clause-items
returns-clause-items c = c.of.ensures ∙ c.deref.ensures.value ∙ sym (items_are _ c.self.invariant.by_id) ∙ ap (λ x. set.items x.ops) c.self.view_is

pub returns-clause-by_id : goal.returns-clause-by_id
returns-clause-by_id c = subst ById (sym (c.of.ensures ∙ c.deref.ensures.value)) c.self.invariant.by_id
