use Rattle.std.proofs.Common.{Bool, Some, None, if◌then◌else◌, sym, ap, ◌∙◌}
use Rattle.crs_sense.specs.Sentences.{sentence}
use Rattle.crs_value.specs.declared.crs.Crs.{Crs}
use Rattle.reg_lint.specs.Details.{told_in}
use Rattle.reg_lint.proofs.details.told.Goals as goal

pub returns-then-passes : goal.returns-then-passes
returns-then-passes c = λ s is. sym (ap (λ (b : Bool). if b then Some (sentence c.args.rule s.crs.parts) else None) (c.passes.ensures c.if-passes.true s is))

pub returns : goal.returns
returns c = λ s is. c.in_ok-detail.ensures ∙ ap (told_in c.args.rule) (c.parts.ensures ∙ ap (λ (v : Crs). v.parts) (c.as_ref.ensures ∙ c.in_ok-crs.ensures s is))
