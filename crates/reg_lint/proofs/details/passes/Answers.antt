use Rattle.std.proofs.Common.{List, sym, ◌∙◌, subst}
use Rattle.std.proofs.lemmas.Bool.{true≢false, not-true}
use Rattle.std.specs.List.{Contains}
use Rattle.crs_sense.specs.declared.rule.Rule.{Rule}
use Rattle.reg_lint.proofs.details.passes.Goals as goal

pub returns : goal.returns
returns c = λ e s is.
    c.args.one.now.sound c.if-not-one.false s is c.args.rule
    (λ h. true≢false (sym (c.is_among.ensures.1 (subst (λ (l : List Rule). Contains l c.args.rule) (sym c.deref.ensures.value) h)) ∙ not-true c.is_among.result e))
