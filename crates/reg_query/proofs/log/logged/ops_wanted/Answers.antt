use Rattle.std.proofs.Common.{◌++◌, filter, sym, ap}
use Rattle.reg_op.specs.Operations.{Op}
use Rattle.reg_query.specs.Asked.{is_asked}
use Rattle.reg_query.specs.Log.{subject}
use Rattle.reg_query.proofs.LogLemmas.{picks_more, picks_all}
use Rattle.reg_query.proofs.log.logged.ops_wanted.Goals as goal

pub loop-op-init : goal.loop-op-init
loop-op-init c = λ a w. ap (λ t. t ++ filter (λ (o : Op). is_asked a (subject o)) c.args.ops.now) (sym c.new-made.ensures.items)

pub loop-op-preserved : goal.loop-op-preserved
loop-op-preserved c = λ a w.
    picks_more (λ (o : Op). is_asked a (subject o)) c.args.ops.now c.loop-op.rest.now c.in-Some.others.now c.in-Some.op.now c.loop-op.made.items c.push_where_wanted.new.made.items c.in-Some.ensures.cases.0
    (c.in_ok-push_where_wanted.ensures a w) (c.loop-op.invariant a w)

pub returns : goal.returns
returns c = λ a w. picks_all (λ (o : Op). is_asked a (subject o)) c.args.ops.now c.loop-op.rest.now c.loop-op.made.items c.in_default.ensures.cases (c.loop-op.invariant a w)
