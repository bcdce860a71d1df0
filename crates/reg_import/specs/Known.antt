-- The entries that are not retired, and those of each key.
use Rattle.std.specs.Prelude.{◌≡◌, Bool, true, false, not, List, [], ◌∷◌, filter, Option, Some, None, if◌then◌else◌}
use Rattle.std.specs.Ordering.{is_eq}
use Rattle.wkt_crs.specs.Definition.{IsKeyIn}
use Rattle.reg_op.specs.Operations.{Ops}
use Rattle.reg_op.specs.Rows.{Row, rows}
use Rattle.reg_op.specs.declared.status.Status.{Status}
use Rattle.reg_op.specs.declared.status.Status.TheVariants.{Valid, Superseded, Retired}
use Rattle.reg_report.specs.Conflicts.{KeyBytes, bytes_of, key_cmp}
use Rattle.reg_report.specs.Exports.{is_retired}
use Rattle.reg_import.specs.declared.standing_entry.StandingEntry.{StandingEntry}

abbrev pub is_valid : Option Status → Bool
is_valid None = false
is_valid (Some Valid) = true
is_valid (Some Superseded) = false
is_valid (Some Retired) = false

-- it is the entry of the row: its text, the key of that, and whether nothing supersedes it
pub record IsKnown (r : Row) (e : StandingEntry) : Type 0 where
  pub entry : e.entry ≡ r.entry
  pub definition : e.definition ≡ r.definition
  pub keyed : IsKeyIn e.key r.definition
  pub valid : e.valid ≡ is_valid r.status

-- one for each row
abbrev pub AreKnown : List Row → List StandingEntry → Type 0
AreKnown [] es = es ≡ []
AreKnown (r ∷ rs) es = (e : StandingEntry) × (rest : List StandingEntry) × IsKnown r e × AreKnown rs rest × (es ≡ e ∷ rest)

abbrev pub stands : Row → Bool
stands r = not (is_retired r.status)

-- those of a set of operations that are not retired, by id
abbrev pub AreStanding : Ops → List StandingEntry → Type 0
AreStanding s es = AreKnown (filter stands (rows s)) es

-- the entries of a key that are not retired, and whether this command entered or found one of them
pub record OfKey : Type 0 where
  pub known : List StandingEntry
  pub ours : Bool

-- the entries of each key
abbrev pub At : Type 0
At = KeyBytes → OfKey

abbrev pub is_key : KeyBytes → KeyBytes → Bool
is_key a b = is_eq (key_cmp a b)

abbrev pub key_of : StandingEntry → KeyBytes
key_of e = bytes_of e.key

-- the entries of each key among some, before the command
abbrev pub by_key : List StandingEntry → At
by_key es = λ k. record { known = filter (λ (e : StandingEntry). is_key k (key_of e)) es; ours = false }

-- this key has new entries, and every other key its old ones
abbrev pub with_key : KeyBytes → OfKey → At → At
with_key key new old = λ k. if is_key key k then new else old k
