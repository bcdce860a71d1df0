-- What an import in each mode promises, from the content x to the content y.
use Rattle.std.specs.Prelude.{◌≡◌, ◌≢◌, false, Some, Contains}
use Rattle.reg_op.specs.Ids.{Id}
use Rattle.reg_op.specs.Contents.{Content}
use Rattle.reg_op.specs.Rows.{Row, rows, IsInConflict}
use Rattle.reg_op.specs.Status.{enters, retires}
use Rattle.reg_op.specs.declared.status.Status.TheVariants.{Retired}
use Rattle.reg_report.specs.Conflicts.{KeyBytes, HasKey}

-- each key that is in conflict was in conflict before
abbrev pub MakesNoConflict : Content → Content → Type 0
MakesNoConflict x y = (k : KeyBytes) → IsInConflict HasKey (rows y.ops) k → IsInConflict HasKey (rows x.ops) k

-- the same entries are retired as before
abbrev pub RetiresNothing : Content → Content → Type 0
RetiresNothing x y = (i : Id) → retires y.ops i ≡ retires x.ops i

-- the entry was entered by the import
pub record HasCome (x y : Content) (r : Row) : Type 0 where
  pub there : Contains (rows y.ops) r
  pub new : enters x.ops r.entry ≡ false

-- the entry is not retired, and its text is the only one of its key that such an entry has
pub record IsOnlyText (y : Content) (r : Row) : Type 0 where
  pub stands : r.status ≢ Some Retired
  pub only : (k : KeyBytes) (other : Row) → Contains (rows y.ops) other → other.status ≢ Some Retired → HasKey r.definition k → HasKey other.definition k → other.definition ≡ r.definition

-- each key of a text that was entered has exactly one text afterwards
abbrev pub LeavesOneText : Content → Content → Type 0
LeavesOneText x y = (r : Row) → HasCome x y r → IsOnlyText y r
