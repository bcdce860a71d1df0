-- Codes that stand otherwise after a change, from some rows to later ones.
use Rattle.std.specs.Prelude.{◌≡◌, ◌⊎◌, ◌↔◌, Bool, true, false, List, Contains, Option, Some, None}
use Rattle.reg_op.specs.Rows.{Row}
use Rattle.reg_op.specs.Set.{Ascends}
use Rattle.crs_value.specs.declared.key.Key.{Key}
use Rattle.reg_report.specs.Conflicts.{KeyBytes, bytes_of}
use Rattle.reg_disorder.specs.declared.code.Standing.{Standing}
use Rattle.reg_disorder.specs.declared.code.Standing.TheVariants.{Absent, Withdrawn, Valid, Superseded}
use Rattle.reg_disorder.specs.Keys.{KeySet, has_key}
use Rattle.reg_disorder.specs.Marks.{Mark, IsMark, mark_cmp}
use Rattle.reg_disorder.specs.Standings.{IsStanding}
use Rattle.reg_news.specs.declared.codes.Code.{Code}

-- the key had an entry, and was not valid
abbrev pub WasOff : List Row → KeyBytes → Type 0
WasOff rs k = IsStanding Withdrawn rs k ⊎ IsStanding Superseded rs k

-- it is valid now
abbrev pub IsAgain : List Row → List Row → KeyBytes → Type 0
IsAgain rs ss k = IsStanding Valid ss k × WasOff rs k

-- these rows say that the key is superseded, or by whom, and the others do not
pub record IsSaidOnlyBy (rs ss : List Row) (k : KeyBytes) : Type 0 where
  pub mark : Mark
  pub key : mark.key ≡ k
  pub superseded : mark.superseded ≡ true
  pub said : IsMark rs mark
  pub unsaid : ¬ (IsMark ss mark)

abbrev pub IsSaidByOne : List Row → List Row → KeyBytes → Type 0
IsSaidByOne rs ss k = IsSaidOnlyBy rs ss k ⊎ IsSaidOnlyBy ss rs k

-- the key is superseded, and was not, or not by the same keys
abbrev pub IsSupersededAnew : List Row → List Row → KeyBytes → Type 0
IsSupersededAnew rs ss k = IsStanding Superseded ss k × IsSaidByOne rs ss k

-- the key has no entry any more: all are retired, and were not
abbrev pub IsGone : List Row → List Row → KeyBytes → Type 0
IsGone rs ss k = IsStanding Withdrawn ss k × (¬ (IsStanding Withdrawn rs k))

-- the key is in exactly one of three lists
abbrev pub IsToldOnce : List Row → List Row → KeyBytes → Type 0
IsToldOnce rs ss k =
    (IsAgain rs ss k × (¬ (IsSupersededAnew rs ss k)) × (¬ (IsGone rs ss k)))
    ⊎ ((¬ (IsAgain rs ss k)) × IsSupersededAnew rs ss k × (¬ (IsGone rs ss k)))
    ⊎ ((¬ (IsAgain rs ss k)) × (¬ (IsSupersededAnew rs ss k)) × IsGone rs ss k)

-- the mark of an entry that is not retired, whose key is in use again; or that says that its key is superseded, which is so anew
abbrev pub IsTold : List Row → List Row → Mark → Type 0
IsTold rs ss m = (m.live ≡ true) × (IsAgain rs ss m.key ⊎ ((m.superseded ≡ true) × IsSupersededAnew rs ss m.key))

-- all such marks of the later rows, in order
pub record AreTold (rs ss : List Row) (ms : List Mark) : Type 0 where
  pub ascend : Ascends mark_cmp ms
  pub each : (m : Mark) → Contains ms m ↔ (IsMark ss m × IsTold rs ss m)

-- ---- as the program holds them

abbrev pub is_off : Standing → Bool
is_off Absent = false
is_off Withdrawn = true
is_off Valid = false
is_off Superseded = true

-- whether a mark of a key with this standing is told, if it is so where the key is valid, and where it is superseded
abbrev pub told_by : Standing → Bool → Bool → Bool
told_by Absent again anew = false
told_by Withdrawn again anew = false
told_by Valid again anew = again
told_by Superseded again anew = anew

-- a mark of a superseded entry of the key that is none of the others
pub record IsMissing (ms others : List Mark) (k : KeyBytes) : Type 0 where
  pub mark : Mark
  pub there : Contains ms mark
  pub key : mark.key ≡ k
  pub superseded : mark.superseded ≡ true
  pub missing : ¬ (Contains others mark)

abbrev pub HasSaidByOne : List Row → List Row → KeySet → Type 0
HasSaidByOne rs ss s = (k : KeyBytes) → (has_key s k ≡ true) ↔ IsSaidByOne rs ss k

abbrev pub key_in : Option Key → Option KeyBytes
key_in None = None
key_in (Some key) = Some (bytes_of key)

abbrev pub code_seen : Code → Mark
code_seen c = record { key = bytes_of c.key; live = true; superseded = c.superseded; by = key_in c.by }
