use Rattle.std.proofs.Common.{sym, ◌∙◌}
use Rattle.reg_lint.proofs.ScreenLemmas.{among_later}
use Rattle.reg_lint.proofs.details.is_among.Goals as goal

pub loop-first-preserved : goal.loop-first-preserved
loop-first-preserved c =
    among_later c.args.rules.now c.loop-first.rest.now c.in-Some.others.now c.in-Some.first.now c.args.rule
    c.in-Some.ensures.cases.0 (sym c.eq.ensures ∙ c.if-eq.false) c.loop-first.invariant
