use Rattle.std.proofs.Common.{ap, ◌∙◌}
use Rattle.std.proofs.lemmas.List.{take_all}
use Rattle.reg_op.specs.Set as set
use Rattle.reg_op.specs.Ids.{Ids}
use Rattle.reg_query.specs.Offices.{replicas_of}
use Rattle.reg_query.proofs.OfficeLemmas.{one_more}
use Rattle.reg_query.proofs.figures.office.offices.Goals as goal

pub loop-replica-preserved : goal.loop-replica-preserved
loop-replica-preserved c =
    let replicas = c.deref-replica-items.result.now in
    let k = c.loop-replica.replica-index in
    let o = c.office_of.result in
    one_more c.args.register.now c.loop-replica.made.items c.push.new.self.items replicas k o c.replica-item.result c.loop-replica-test.true
    c.replica-item.is c.office_of.ensures.replica c.loop-replica.invariant c.office_of.ensures.office c.in_ok-push.ensures.items

pub returns : goal.returns
returns c =
    let replicas = c.deref-replica-items.result.now in record {
      replicas = c.loop-replica.invariant.0 ∙ take_all c.loop-replica.replica-index replicas c.loop-replica-test.false ∙ c.deref-replica-items.ensures.value
          ∙ c.in_ok-replicas.ensures ∙ ap (λ (s : Ids). set.items (replicas_of s)) (c.runs.ensures.all ∙ c.seen.ensures.value);
      offices = c.loop-replica.invariant.1;
    }
