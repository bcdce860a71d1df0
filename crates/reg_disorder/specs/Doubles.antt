-- Entries of one text.
use Rattle.std.specs.Prelude.{◌≡◌, ◌≢◌, true, List, Contains, Some}
use Rattle.reg_op.specs.Ids.{Id, is_before}
use Rattle.reg_op.specs.Rows.{Row}
use Rattle.reg_op.specs.declared.status.Status.TheVariants.{Retired}
use Rattle.reg_disorder.specs.Settling.{Picks}

-- the first has the text and a lesser id, and is not retired
pub record IsLesser (r lesser : Row) : Type 0 where
  pub stands : lesser.status ≢ Some Retired
  pub text : lesser.definition ≡ r.definition
  pub before : is_before lesser.entry r.entry ≡ true

-- some row is lesser
pub record HasLesser (rs : List Row) (r : Row) : Type 0 where
  pub lesser : Row
  pub there : Contains rs lesser
  pub is : IsLesser r lesser

-- the row is not retired, and some row that is not retired has its text and a lesser id
pub record IsDouble (rs : List Row) (r : Row) : Type 0 where
  pub stands : r.status ≢ Some Retired
  pub lesser : HasLesser rs r

-- of the entries that are not retired and have one text, and so one key, all but the least, by id
abbrev pub AreDoubles : List Row → List Id → Type 0
AreDoubles rs ids = Picks (IsDouble rs) rs ids
