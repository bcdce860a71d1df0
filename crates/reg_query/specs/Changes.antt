-- The rows that only one of two lists has.
use Rattle.std.specs.Prelude.{◌↔◌, ℕ, List, Contains, codes}
use Rattle.std.specs.declared.cmp.Ordering.{Ordering}
use Rattle.std.specs.Ordering.{nat_cmp, ordering_then}
use Rattle.reg_op.specs.Set.{Ascends}
use Rattle.reg_op.specs.Rows.{Row}
use Rattle.reg_report.specs.Rows.{row_cmp}
use Rattle.reg_query.specs.declared.diff.change.Sign.{Sign}
use Rattle.reg_query.specs.declared.diff.change.Sign.TheVariants.{Gone, Come}

-- a row that is gone, or one that came
pub record Change : Type 0 where
  pub sign : Sign
  pub row : Row

abbrev pub signed : Sign → Row → Change
signed s r = record { sign = s; row = r }

abbrev pub sign_text : Sign → List ℕ
sign_text Gone = codes "-"
sign_text Come = codes "+"

-- the older list has a row that is gone, and the newer one a row that came; the other has no such row
abbrev pub IsChange : Sign → List Row → List Row → Row → Type 0
IsChange Gone old new r = Contains old r × ¬ (Contains new r)
IsChange Come old new r = Contains new r × ¬ (Contains old r)

-- `Gone` comes first
abbrev pub rank : Sign → ℕ
rank Gone = 0
rank Come = 1

-- changes are ordered by the entry, and then by the sign
abbrev pub change_cmp : Change → Change → Ordering
change_cmp a b = ordering_then (row_cmp a.row b.row) (nat_cmp (rank a.sign) (rank b.sign))

-- exactly the changes, in order
pub record AreChanges (old new : List Row) (cs : List Change) : Type 0 where
  pub ascend : Ascends change_cmp cs
  pub each : (c : Change) → Contains cs c ↔ IsChange c.sign old new c.row
