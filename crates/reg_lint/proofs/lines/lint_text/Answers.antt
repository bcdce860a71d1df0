use Rattle.std.proofs.Common.{map, ap, ◌∙◌}
use Rattle.reg_lint.specs.Screening.{kept_in}
use Rattle.reg_lint.proofs.lines.lint_text.Goals as goal

pub write_all_lines-requires-clause-looked : goal.write_all_lines-requires-clause-looked
write_all_lines-requires-clause-looked c = ap (map kept_in) c.deref.ensures.value ∙ c.in_ok-screened.ensures
