use Rattle.std.proofs.Common.{List, map, filter, ap, ◌∙◌, subst}
use Rattle.reg_op.specs.Rows.{Row}
use Rattle.reg_report.specs.Seen.{row_seen}
use Rattle.reg_lint.specs.Entered.{is_new}
use Rattle.reg_lint.specs.Subjects.{AreLiveKept}
use Rattle.reg_lint.proofs.EnteredLemmas.{new_seen}
use Rattle.reg_lint.proofs.entered.entered_subjects.Goals as goal

pub returns : goal.returns
returns c =
    subst (λ (rs : List Row). AreLiveKept rs c.in_ok-kept.kept.items)
    (ap (map row_seen) c.keep_new.ensures
    ∙ new_seen c.args.earlier.now c.in_ok-rows.rows.items
    ∙ ap (filter (is_new c.args.earlier.now)) c.in_ok-rows.ensures.rows)
    c.in_ok-kept.ensures
