use Rattle.std.proofs.Common.{subst, sym, ap, ◌∙◌}
use Rattle.reg_op.specs.Contents.{Content}
use Rattle.reg_office.specs.Making.{AreAllowed}
use Rattle.reg_disorder.specs.Passing.{bodies_of}
use Rattle.reg_disorder.proofs.Allowed.{are_allowed}
use Rattle.reg_disorder.proofs.linking.passing.pass_on.Goals as goal

pub make-requires : goal.make-requires
make-requires c =
    let replica = c.args.office.now.replica in
    let note = c.args.note.now in
    let allowed = are_allowed c.args.before.now c.register.result.now replica note c.in-Ok.links.items c.in-Ok.ensures in
    subst (λ bs. AreAllowed c.args.office.now.register replica note bs) (sym (c.deref-2.ensures.value ∙ c.in-Ok-bodies_of.ensures ∙ ap bodies_of c.deref.ensures.value))
    (subst (λ (x : Content). AreAllowed x replica note (bodies_of c.in-Ok.links.items)) c.register.ensures allowed)
