use Rattle.std.proofs.Common.{◌∙◌}
use Rattle.reg_office.proofs.NumberLemmas.{numbered_more}
use Rattle.reg_office.proofs.making.ops_of.Goals as goal

pub loop-k-preserved : goal.loop-k-preserved
loop-k-preserved c = c.in_ok-push.ensures.items ∙ numbered_more c.args.replica c.args.first c.args.note.now c.args.bodies.now c.loop-k.k c.index-bodies-k.result c.loop-k.ops.items c.in-Ok.op c.loop-k-test.true c.index-bodies-k.is c.loop-k.invariant
    (c.in-Ok.ensures.ok ∙ (λ j. record { id = c.in-Some.ensures.value j; body = c.in_ok-body.ensures j; note = c.in_ok-noted.ensures j }))
