use Rattle.std.proofs.Common.{◌∙◌}
use Rattle.reg_report.proofs.GapLemmas.{gaps_are, walked}
use Rattle.reg_report.proofs.gap.gaps.Goals as goal

pub returns : goal.returns
returns c =
    gaps_are c.runs-rest.result.now c.args.register.now.seen c.loop-run.made.items c.runs-rest.ensures.runs (c.runs-rest.ensures.all ∙ c.seen.ensures.value)
    (walked c.loop-run.made.items c.loop-run.before c.loop-run.rest.now _ c.in_default.ensures.cases c.loop-run.invariant)
