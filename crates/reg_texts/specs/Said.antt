-- The statements of a register about its texts.
use Rattle.std.specs.Prelude.{◌≡◌, ◌≢◌, ◌⊎◌, ◌↔◌, ℕ, Bool, false, List, Contains, Option, Some, None, IsTrue}
use Rattle.std.specs.declared.cmp.Ordering.{Ordering}
use Rattle.std.specs.Ordering.{nat_cmp, bool_cmp, ordering_then}
use Rattle.std.specs.Option.{option_cmp}
use Rattle.std.specs.Cmp.Lexicographic.{slice_cmp}
use Rattle.reg_op.specs.Rows.{Row}
use Rattle.reg_op.specs.Set.{Ascends}
use Rattle.reg_op.specs.declared.status.Status.TheVariants.{Valid, Retired}
use Rattle.reg_report.specs.Conflicts.{KeyBytes, key_cmp, HasKey}
use Rattle.reg_report.specs.declared.key.KeyText.{KeyText}
use Rattle.reg_report.specs.Keys.{key_bytes}
use Rattle.reg_texts.specs.declared.saying.Saying.{Saying}

-- a statement about a text with a key: that it is valid, or that it is superseded, with the key of a superseding entry
pub record Said : Type 0 where
  pub key : KeyBytes
  pub text : List ℕ
  pub valid : Bool
  pub by : Option KeyBytes

-- the entry is not retired
abbrev pub IsLive : Row → Type 0
IsLive r = r.status ≢ Some Retired

-- the row's entry is not retired, and has this text and this key
pub record IsOf (r : Row) (s : Said) : Type 0 where
  pub live : IsLive r
  pub text : s.text ≡ r.definition
  pub keyed : HasKey r.definition s.key

-- it says whether the row's entry is valid
pub record SaysStatus (r : Row) (s : Said) : Type 0 where
  pub of : IsOf r s
  pub status : IsTrue s.valid ↔ (r.status ≡ Some Valid)
  pub by : s.by ≡ None

-- it has the key of an entry that supersedes the row's entry and is not retired
pub record SaysSuccessor (rs : List Row) (r : Row) (s : Said) : Type 0 where
  pub of : IsOf r s
  pub superseded : s.valid ≡ false
  pub newer : Row
  pub there : Contains rs newer
  pub supersedes : Contains r.newer newer.entry
  pub live : IsLive newer
  pub by : (k : KeyBytes) × (s.by ≡ Some k) × HasKey newer.definition k

-- some row has this statement about its text
abbrev pub Says : List Row → Said → Type 0
Says rs s = (r : Row) × Contains rs r × (SaysStatus r s ⊎ SaysSuccessor rs r s)

-- by key, then by text, then by statement: that a text is superseded comes first
abbrev pub said_cmp : Said → Said → Ordering
said_cmp a b =
    ordering_then (key_cmp a.key b.key)
    (ordering_then (slice_cmp nat_cmp a.text b.text) (ordering_then (bool_cmp a.valid b.valid) (option_cmp key_cmp a.by b.by)))

-- all statements of the rows, in order, each once
pub record AreSaid (rs : List Row) (ss : List Said) : Type 0 where
  pub ascend : Ascends said_cmp ss
  pub each : (s : Said) → Contains ss s ↔ Says rs s

-- ---- the statements of the program

abbrev pub by_bytes : Option KeyText → Option KeyBytes
by_bytes None = None
by_bytes (Some k) = Some (key_bytes k)

abbrev pub said : Saying → Said
said s = record { key = key_bytes s.key; text = s.text.now; valid = s.valid; by = by_bytes s.by }
