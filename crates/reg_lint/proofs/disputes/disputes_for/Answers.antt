use Rattle.std.proofs.Common.{◌||◌, not, sym, ◌∙◌}
use Rattle.std.proofs.lemmas.Bool.{true≢false}
use Rattle.reg_lint.specs.Disputes.{is_open_by}
use Rattle.reg_lint.proofs.disputes.disputes_for.Goals as goal

pub returns-then-not-has_wide : goal.returns-then-not-has_wide
returns-then-not-has_wide c = λ ss are rule w n. absurd (true≢false ((λ j. not (sym c.new.ensures.heard j) || is_open_by c.new.result rule w) ∙ n))
