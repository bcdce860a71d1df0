-- The rows of the entries that a content has, and an earlier one has not.
use Rattle.std.specs.Prelude.{◌≡◌, ℕ, false, List, [], if◌then◌else◌}
use Rattle.reg_op.specs.Contents.{Content}
use Rattle.reg_lint.specs.declared.rule.AnyRule.{AnyRule}
use Rattle.reg_lint.specs.Subjects.{Subject}
use Rattle.reg_lint.specs.Entered.{AreEntered}
use Rattle.reg_lint.specs.Lines.{lint_sheet, has_rows}

abbrev pub if_rows : List ℕ → List ℕ
if_rows text = if has_rows text then text else []

-- by these rules, with none that were looked at before
abbrev pub IsEnteredText : List AnyRule → Content → Content → List ℕ → Type 0
IsEnteredText rules x y text = (subjects : List Subject) × AreEntered x y subjects × (text ≡ if_rows (lint_sheet (λ mark. false) rules subjects))
