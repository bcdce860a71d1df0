use Rattle.std.specs.List.{flat_map}
use Rattle.reg_lint.specs.Disputes.{claims_by}
use Rattle.reg_lint.proofs.DisputeLemmas.{hearing_begun, hearing_step, hearing_done}
use Rattle.reg_lint.proofs.disputes.disputes_of.Goals as goal

pub loop-one-init : goal.loop-one-init
loop-one-init c = hearing_begun c.args.kept.now c.new-made.result c.new-made.ensures.fresh

pub loop-one-preserved : goal.loop-one-preserved
loop-one-preserved c =
    hearing_step c.args.kept.now c.loop-one.rest.now c.in-Some.others.now c.in-Some.one.now c.loop-one.made c.hear_one.new.made
    c.in-Some.ensures.cases.0 c.in_ok-hear_one.ensures c.loop-one.invariant

pub returns : goal.returns
returns c = λ ss are rule.
    c.settle.ensures rule (flat_map (claims_by rule) ss)
    (hearing_done c.args.kept.now c.loop-one.rest.now c.loop-one.made c.in_default.ensures.cases c.loop-one.invariant ss are rule)
