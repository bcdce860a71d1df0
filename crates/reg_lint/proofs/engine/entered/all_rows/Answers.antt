use Rattle.std.proofs.Common.{◌∙◌}
use Rattle.reg_lint.specs.Lines.{lint_sheet}
use Rattle.reg_lint.proofs.engine.entered.all_rows.Goals as goal

pub returns : goal.returns
returns c = λ ss are. c.in_ok-text.ensures ss are ∙ (λ j. lint_sheet (λ mark. c.none-known.ensures mark j) c.args.rules.now ss)
