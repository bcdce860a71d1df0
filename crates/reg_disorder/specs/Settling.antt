-- The entries that are retired so that others of their keys are kept.
use Rattle.std.specs.Prelude.{◌≡◌, ◌≢◌, ◌⊎◌, List, [], ◌∷◌, ◌++◌, Contains, Some}
use Rattle.reg_op.specs.Ids.{Id}
use Rattle.reg_op.specs.Rows.{Row}
use Rattle.reg_op.specs.declared.status.Status.TheVariants.{Retired}
use Rattle.reg_report.specs.Conflicts.{KeyBytes, HasKey}
use Rattle.reg_report.specs.Rows.{HasRow}
use Rattle.reg_disorder.specs.declared.settling.fault.SettleFault.{SettleFault}
use Rattle.reg_disorder.specs.declared.settling.fault.SettleFault.TheVariants as fault

-- they have the same key
pub record SharesKey (one other : Row) : Type 0 where
  pub key : KeyBytes
  pub of_one : HasKey one.definition key
  pub of_other : HasKey other.definition key

-- they have the same key, and different texts
pub record Differs (one other : Row) : Type 0 where
  pub shares : SharesKey one other
  pub differ : one.definition ≢ other.definition

-- the entries of the rows for which P holds, in order
abbrev pub Picks : (Row → Type 0) → List Row → List Id → Type 0
Picks P [] ids = ids ≡ []
Picks P (r ∷ rs) ids = (P r × ((later : List Id) × Picks P rs later × (ids ≡ r.entry ∷ later))) ⊎ ((¬ (P r)) × Picks P rs ids)

-- the row is kept before, and has the key and another text
pub record Takes (before : List Id) (keep r : Row) : Type 0 where
  pub differs : Differs r keep
  pub kept : Contains before r.entry

-- some row was kept before, and has the key and another text
pub record IsTaken (rs : List Row) (before : List Id) (keep : Row) : Type 0 where
  pub other : Row
  pub there : Contains rs other
  pub takes : Takes before keep other

-- k can be kept after others: it is the entry of a row that is not retired, and no other text of its key is kept
pub record IsKept (rs : List Row) (before : List Id) (k : Id) (keep : Row) : Type 0 where
  pub there : Contains rs keep
  pub is : keep.entry ≡ k
  pub stands : keep.status ≢ Some Retired
  pub agrees : ¬ (IsTaken rs before keep)

-- this row is retired for the kept one: it has the key, and is neither kept nor already retired
pub record IsRival (keeps retired : List Id) (keep r : Row) : Type 0 where
  pub shares : SharesKey keep r
  pub stands : r.status ≢ Some Retired
  pub no_keep : ¬ (Contains keeps r.entry)
  pub left : ¬ (Contains retired r.entry)

-- for each of some entries in order, after others, its rivals are retired, ordered by id, each once; this is the list
-- of all
abbrev pub Settles : List Row → List Id → List Id → List Id → List Id → List Id → Type 0
Settles rs keeps before [] retired all = all ≡ retired
Settles rs keeps before (k ∷ ks) retired all =
    (keep : Row) × IsKept rs before k keep × ((mine : List Id) × Picks (IsRival keeps retired keep) rs mine × Settles rs keeps (before ++ k ∷ []) ks (retired ++ mine) all)

-- the entries that settling retires to keep these entries
abbrev pub IsSettled : List Row → List Id → List Id → Type 0
IsSettled rs keeps all = Settles rs keeps [] keeps [] all

-- why k cannot be kept after others
abbrev pub IsObjection : List Row → List Id → Id → SettleFault → Type 0
IsObjection rs before k (fault.UnknownEntry i) = (i ≡ k) × ((r : Row) → ¬ (HasRow rs k r))
IsObjection rs before k (fault.AlreadyRetired i) = (i ≡ k) × ((r : Row) × HasRow rs k r × (r.status ≡ Some Retired))
IsObjection rs before k (fault.KeyTaken i) = (i ≡ k) × ((r : Row) × HasRow rs k r × (r.status ≢ Some Retired) × IsTaken rs before r)
IsObjection rs before k fault.Memory = ⊥

-- the first of some entries that cannot be kept, after others, cannot for this reason
abbrev pub Refuses : List Row → List Id → List Id → SettleFault → Type 0
Refuses rs before [] f = ⊥
Refuses rs before (k ∷ ks) f = IsObjection rs before k f ⊎ ((keep : Row) × IsKept rs before k keep × Refuses rs (before ++ k ∷ []) ks f)

-- why settling is refused
abbrev pub IsUnsettled : List Row → List Id → SettleFault → Type 0
IsUnsettled rs keeps f = Refuses rs [] keeps f
