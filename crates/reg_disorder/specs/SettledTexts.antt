-- The texts of rows.
use Rattle.std.specs.Prelude.{◌≡◌, ◌≢◌, ◌↔◌, ℕ, List, Contains, Some, IsTrue}
use Rattle.std.specs.Borrow.{Bor}
use Rattle.std.specs.BTreeSet.{BTreeSet, contains}
use Rattle.std.specs.Cmp.Lexicographic.{slice_cmp}
use Rattle.std.specs.Ordering.{nat_cmp}
use Rattle.std.specs.declared.cmp.Ordering.{Ordering}
use Rattle.reg_op.specs.Rows.{Row}
use Rattle.reg_op.specs.declared.status.Status.TheVariants.{Retired}

-- some row that is not retired has the text
pub record HasText (rs : List Row) (text : List ℕ) : Type 0 where
  pub row : Row
  pub there : Contains rs row
  pub stands : row.status ≢ Some Retired
  pub is : row.definition ≡ text

abbrev pub bytes_cmp : Bor (List ℕ) → Bor (List ℕ) → Ordering
bytes_cmp a b = slice_cmp nat_cmp a.now b.now

-- the set has exactly the texts of the rows that are not retired
abbrev pub HasTexts : BTreeSet (Bor (List ℕ)) → List Row → Type 0
HasTexts set rs = (q : Bor (List ℕ)) → IsTrue (contains bytes_cmp set q) ↔ HasText rs q.now
