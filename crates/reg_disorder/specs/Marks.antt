-- What rows say of their keys.
use Rattle.std.specs.Prelude.{◌≡◌, ◌⊎◌, ◌↔◌, Bool, true, false, not, List, Contains, Option, Some, None, IsTrue}
use Rattle.std.specs.declared.cmp.Ordering.{Ordering}
use Rattle.std.specs.Ordering.{bool_cmp, ordering_then}
use Rattle.std.specs.Option.{option_cmp}
use Rattle.reg_op.specs.Ids.{Id}
use Rattle.reg_op.specs.Rows.{Row}
use Rattle.reg_op.specs.Set.{Ascends}
use Rattle.reg_op.specs.declared.status.Status.TheVariants.{Superseded}
use Rattle.reg_report.specs.Conflicts.{KeyBytes, key_cmp, HasKey}
use Rattle.reg_report.specs.Exports.{is_retired}
use Rattle.reg_report.specs.Rows.{HasRow}
use Rattle.reg_report.specs.declared.key.KeyText.{KeyText}
use Rattle.reg_report.specs.Keys.{key_bytes}
use Rattle.reg_disorder.specs.declared.mark.Mark.{Mark as MadeMark}

-- a key, whether an entry of it is not retired, whether it is superseded, and the key of an entry by which it is
pub record Mark : Type 0 where
  pub key : KeyBytes
  pub live : Bool
  pub superseded : Bool
  pub by : Option KeyBytes

-- the mark of the row's own status
pub record IsOwn (r : Row) (m : Mark) : Type 0 where
  pub key : HasKey r.definition m.key
  pub live : m.live ≡ not (is_retired r.status)
  pub superseded : IsTrue m.superseded ↔ (r.status ≡ Some Superseded)
  pub by : m.by ≡ None

-- the mark that the row's entry is superseded by an entry with the key of the other row
pub record IsBy (r newer : Row) (m : Mark) : Type 0 where
  pub key : HasKey r.definition m.key
  pub live : m.live ≡ true
  pub superseded : m.superseded ≡ true
  pub by : (k : KeyBytes) × (m.by ≡ Some k) × HasKey newer.definition k

-- the other row is not retired and has another key
pub record Succeeds (r newer : Row) : Type 0 where
  pub stands : is_retired newer.status ≡ false
  pub differs : (k : KeyBytes) → HasKey r.definition k → ¬ (HasKey newer.definition k)

-- the mark because this entry supersedes the row's one
abbrev pub IsMarkBy : List Row → Row → Id → Mark → Type 0
IsMarkBy rs r entry m = (newer : Row) × HasRow rs entry newer × Succeeds r newer × IsBy r newer m

-- it holds of one of these, with the mark
abbrev pub OfSome : {X : Type 0} → (X → Mark → Type 0) → List X → Mark → Type 0
OfSome {X = X} Marks xs m = (x : X) × Contains xs x × Marks x m

-- a mark of the row: its own, or one by an entry that supersedes the row's
abbrev pub IsMarkOf : List Row → Row → Mark → Type 0
IsMarkOf rs r m = IsOwn r m ⊎ OfSome (IsMarkBy rs r) r.newer m

abbrev pub IsMark : List Row → Mark → Type 0
IsMark rs m = OfSome (IsMarkOf rs) rs m

-- by key; of one key the marks of retired entries come first, and then those of valid ones
abbrev pub mark_cmp : Mark → Mark → Ordering
mark_cmp a b = ordering_then (key_cmp a.key b.key) (ordering_then (bool_cmp a.live b.live) (ordering_then (bool_cmp a.superseded b.superseded) (option_cmp key_cmp a.by b.by)))

-- all marks of the rows, in order, each once
pub record AreMarks (rs : List Row) (ms : List Mark) : Type 0 where
  pub ascend : Ascends mark_cmp ms
  pub each : (m : Mark) → Contains ms m ↔ IsMark rs m

-- ---- the marks of the program

abbrev pub by_bytes : Option KeyText → Option KeyBytes
by_bytes None = None
by_bytes (Some k) = Some (key_bytes k)

abbrev pub mark_seen : MadeMark → Mark
mark_seen m = record { key = key_bytes m.key; live = m.live; superseded = m.superseded; by = by_bytes m.by }

-- the later list has the earlier marks, and those of which P holds
abbrev pub Gains : (Mark → Type 0) → List Mark → List Mark → Type 0
Gains P old new = (m : Mark) → Contains new m ↔ (Contains old m ⊎ P m)
