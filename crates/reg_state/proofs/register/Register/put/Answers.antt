use Rattle.std.proofs.Common.{ap, ◌∙◌, subst}
use Rattle.reg_op.specs.Set as set
use Rattle.reg_op.specs.Operations.{one, ids}
use Rattle.reg_op.specs.Contents.{Content, IsContent}
use Rattle.reg_state.proofs.OneMoreLemmas.{known_is, id_there, absent_of}
use Rattle.reg_state.proofs.PutLemmas.{seen_more}
use Rattle.reg_state.proofs.register.Register.put.Goals as goal

pub returns-then-has_id-clause-ok : goal.returns-then-has_id-clause-ok
returns-then-has_id-clause-ok c =
    known_is c.args.self.now c.args.op (subst IsContent c.self.view_is c.self.invariant.is_content) c.requires
    (id_there c.args.self.now c.self.inside.ops.items _ c.self.inside.seen c.args.op _ _ c.self.view_is c.deref.ensures.value c.id.ensures.value c.has_id.ensures ∙ c.if-has_id.true)

pub put_entry-requires-clause-absent : goal.put_entry-requires-clause-absent
put_entry-requires-clause-absent c =
    absent_of c.args.self.now c.args.op
    (id_there c.args.self.now c.self.inside.ops.items _ c.self.inside.seen c.args.op _ _ c.self.view_is c.deref.ensures.value c.id.ensures.value c.has_id.ensures ∙ c.if-has_id.false)

pub put_entry-requires-clause-seen : goal.put_entry-requires-clause-seen
put_entry-requires-clause-seen c =
    seen_more c.self.inside.seen _ _ c.args.op c.in_ok-seen.ensures c.id-2.ensures.value ∙ ap (λ (y : Content). set.union y.seen (ids (one c.args.op))) c.self.view_is

pub put_mark-requires-clause-absent : goal.put_mark-requires-clause-absent
put_mark-requires-clause-absent c =
    absent_of c.args.self.now c.args.op
    (id_there c.args.self.now c.self.inside.ops.items _ c.self.inside.seen c.args.op _ _ c.self.view_is c.deref.ensures.value c.id.ensures.value c.has_id.ensures ∙ c.if-has_id.false)

pub put_mark-requires-clause-seen : goal.put_mark-requires-clause-seen
put_mark-requires-clause-seen c =
    seen_more c.self.inside.seen _ _ c.args.op c.in_ok-seen.ensures c.id-2.ensures.value ∙ ap (λ (y : Content). set.union y.seen (ids (one c.args.op))) c.self.view_is
