-- The entries that a content has, and an earlier one has not.
use Rattle.std.specs.Prelude.{Bool, not, List, filter}
use Rattle.reg_op.specs.Contents.{Content}
use Rattle.reg_op.specs.Rows.{Row, rows}
use Rattle.reg_op.specs.Status.{enters}
use Rattle.reg_lint.specs.Subjects.{Subject}
use Rattle.reg_lint.specs.Subjects.{AreLive}

-- the row is of no entry of the content
abbrev pub is_new : Content → Row → Bool
is_new x r = not (enters x.ops r.entry)

-- the entries of the second content that are not retired, and that are no entries of the first, by id
abbrev pub AreEntered : Content → Content → List Subject → Type 0
AreEntered x y subjects = AreLive (filter (is_new x) (rows y.ops)) subjects
