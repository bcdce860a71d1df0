use Rattle.reg_lint.specs.Known.{has_mark}
use Rattle.reg_lint.proofs.engine.lint.lint_beside.Goals as goal

pub returns : goal.returns
returns c = λ ss are. (has_mark c.in_ok-known.known, c.in_ok-known.ensures, c.in_ok-text.ensures ss are)
