-- The order of rows, and the row of an entry.
use Rattle.std.specs.Prelude.{◌≡◌, List, Contains}
use Rattle.std.specs.declared.cmp.Ordering.{Ordering}
use Rattle.reg_op.specs.Ids.{Id, id_cmp}
use Rattle.reg_op.specs.Rows.{Row}

-- rows are ordered by the entry
abbrev pub row_cmp : Row → Row → Ordering
row_cmp a b = id_cmp a.entry b.entry

-- a row of the entry
pub record HasRow (rs : List Row) (e : Id) (r : Row) : Type 0 where
  pub there : Contains rs r
  pub is : r.entry ≡ e
