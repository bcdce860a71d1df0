-- What holds of a key.
use Rattle.std.specs.Prelude.{◌≡◌, List, Contains, Some}
use Rattle.reg_op.specs.Rows.{Row}
use Rattle.reg_op.specs.declared.status.Status.TheVariants as status
use Rattle.reg_report.specs.Conflicts.{KeyBytes, HasKey}
use Rattle.reg_disorder.specs.declared.code.Standing.{Standing}
use Rattle.reg_disorder.specs.declared.code.Standing.TheVariants.{Absent, Withdrawn, Valid, Superseded}
use Rattle.reg_disorder.specs.Keys.{IsLive}
use Rattle.reg_disorder.specs.Marks.{Succeeds}

-- an entry of the key, retired or not
pub record HasEntry (rs : List Row) (k : KeyBytes) : Type 0 where
  pub row : Row
  pub there : Contains rs row
  pub key : HasKey row.definition k

-- an entry of the key is superseded; so it is not retired
pub record IsSuperseded (rs : List Row) (k : KeyBytes) : Type 0 where
  pub row : Row
  pub there : Contains rs row
  pub superseded : row.status ≡ Some status.Superseded
  pub key : HasKey row.definition k

-- such an entry is superseded by an entry of the other key, which is not retired
pub record IsSupersededByKey (rs : List Row) (k by : KeyBytes) : Type 0 where
  pub row : Row
  pub there : Contains rs row
  pub key : HasKey row.definition k
  pub newer : Row
  pub newer_there : Contains rs newer
  pub supersedes : Contains row.newer newer.entry
  pub succeeds : Succeeds row newer
  pub newer_key : HasKey newer.definition by

-- a superseded entry counts more than a valid one beside it
abbrev pub IsStanding : Standing → List Row → KeyBytes → Type 0
IsStanding Absent rs k = ¬ (HasEntry rs k)
IsStanding Withdrawn rs k = HasEntry rs k × (¬ (IsLive rs k))
IsStanding Valid rs k = IsLive rs k × (¬ (IsSuperseded rs k))
IsStanding Superseded rs k = IsSuperseded rs k
