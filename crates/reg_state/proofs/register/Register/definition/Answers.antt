use Rattle.std.proofs.Common.{◌≡◌, ℕ, List, true, false, ◌&&◌, IfSome, IfNone, ap, ◌∙◌, subst}
use Rattle.std.specs.List.{list_any}
use Rattle.reg_op.specs.Set as set
use Rattle.reg_op.specs.Ids.{is_same}
use Rattle.reg_op.specs.Operations.{Op}
use Rattle.reg_op.specs.Contents.{Content}
use Rattle.reg_op.specs.Status.{enters, is_enter}
use Rattle.reg_op.specs.Kept.{entering}
use Rattle.reg_op.specs.Lists.{has}
use Rattle.reg_state.proofs.TableLemmas.{found_there, entered_none}
use Rattle.reg_state.proofs.register.Register.definition.Goals as goal

pub returns-clause-found : goal.returns-clause-found
returns-clause-found c =
    let r = c.definition_in.result in
    subst (λ (x : Content). IfSome r (λ d. (note : List ℕ) × (set.contains x.ops (entering c.args.entry d.now note) ≡ true))) c.self.view_is
    (found_there (λ d note. entering c.args.entry d.now note) c.self.inside.ops.items r
    (subst (λ (os : List Op). IfSome r (λ d. (note : List ℕ) × (has os (entering c.args.entry d.now note) ≡ true))) c.deref.ensures.value c.definition_in.ensures.found))

pub returns-clause-none : goal.returns-clause-none
returns-clause-none c =
    let r = c.definition_in.result in
    subst (λ (x : Content). IfNone r (enters x.ops c.args.entry ≡ false)) c.self.view_is
    (entered_none c.self.inside.ops.items c.args.entry r
    (c.definition_in.ensures.told ∙ ap (list_any (λ (o : Op). is_same c.args.entry o.id && is_enter o.body)) c.deref.ensures.value))
