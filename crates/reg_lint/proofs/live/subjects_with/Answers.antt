use Rattle.std.proofs.Common.{List, ap, ◌∙◌, subst}
use Rattle.reg_op.specs.Rows.{Row}
use Rattle.reg_lint.specs.Subjects.{asked, AreLiveKept}
use Rattle.reg_lint.proofs.live.subjects_with.Goals as goal

pub returns : goal.returns
returns c = subst (λ (rs : List Row). AreLiveKept rs c.in_ok-kept.kept.items) (c.keep_asked.ensures ∙ ap (asked c.args.status) c.in_ok-rows.ensures.rows) c.in_ok-kept.ensures
