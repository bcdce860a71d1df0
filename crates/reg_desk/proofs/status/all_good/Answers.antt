use Rattle.std.proofs.Common.{sym, ◌∙◌}
use Rattle.reg_desk.proofs.StatusLemmas.{passed_more}
use Rattle.reg_desk.proofs.status.all_good.Goals as goal

pub loop-look-preserved : goal.loop-look-preserved
loop-look-preserved c = passed_more c.args.looks.now c.loop-look.rest.now c.in-Some.others.now c.in-Some.look.now _ c.in-Some.ensures.cases.0 (sym c.fault_at.ensures ∙ c.in_default-fault_at.is) c.loop-look.invariant
