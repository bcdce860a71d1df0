-- The entries that words name.
use Rattle.std.specs.Prelude.{◌≡◌, ◌≢◌, ◌⊎◌, ◌↔◌, true, false, ◌++◌, ◌∷◌, [], ℕ, List, Contains, Some}
use Rattle.reg_op.specs.Set.{Ascends}
use Rattle.reg_op.specs.Ids.{Id, id_cmp, is_before}
use Rattle.reg_op.specs.Rows.{Row}
use Rattle.reg_op.specs.Text.{Spells}
use Rattle.reg_op.specs.declared.status.Status.TheVariants.{Retired}
use Rattle.reg_report.specs.Conflicts.{KeyBytes, HasKey}
use Rattle.reg_keys.specs.declared.fault.KeyFault.{KeyFault}
use Rattle.reg_keys.specs.declared.fault.KeyFault.TheVariants.{NoEntry, Several, Memory}
use Rattle.reg_keys.specs.Words.{NamesKey}

-- ---- one row

-- the word is the key of its text
abbrev pub HasWord : List ℕ → Row → Type 0
HasWord word r = (k : KeyBytes) × NamesKey word k × HasKey r.definition k

-- and its entry is not retired
abbrev pub Answers : List ℕ → Row → Type 0
Answers word r = HasWord word r × (r.status ≢ Some Retired)

-- ---- the entries of some rows

-- the entry of a row for which P holds
abbrev pub IsEntry : (Row → Type 0) → List Row → Id → Type 0
IsEntry P rs e = (r : Row) × Contains rs r × P r × (r.entry ≡ e)

-- all of these, ascending
pub record AreEntries (P : Row → Type 0) (rs : List Row) (es : List Id) : Type 0 where
  pub ascend : Ascends id_cmp es
  pub each : (e : Id) → Contains es e ↔ IsEntry P rs e

-- the row's entry is added at the end, if P holds for the row
abbrev pub AddsEntry : (Row → Type 0) → Row → List Id → List Id → Type 0
AddsEntry P r old new = (P r × (new ≡ old ++ r.entry ∷ [])) ⊎ ((¬ (P r)) × (new ≡ old))

-- ---- one word

abbrev pub IsNoId : List ℕ → Type 0
IsNoId word = (i : Id) → ¬ (Spells word i)

-- the word is no id, and these entries have the key that it names
abbrev pub IsAnsweredBy : List Row → List ℕ → List Id → Type 0
IsAnsweredBy rs word es = IsNoId word × AreEntries (Answers word) rs es

-- its entries that are not retired have this text
abbrev pub AllHave : List ℕ → List Row → List ℕ → Type 0
AllHave text rs word = (r : Row) → Contains rs r → Answers word r → r.definition ≡ text

-- the least entry of the key that is not retired, by its row
pub record IsLeast (rs : List Row) (word : List ℕ) (least : Row) : Type 0 where
  pub there : Contains rs least
  pub answers : Answers word least
  pub first : (r : Row) → Contains rs r → Answers word r → is_before r.entry least.entry ≡ false

-- an id names its entry, and a key the least of its entries that are not retired, if these have one text
abbrev pub StandsFor : List Row → List ℕ → Id → Type 0
StandsFor rs word e = Spells word e ⊎ (IsNoId word × ((least : Row) × IsLeast rs word least × (least.entry ≡ e) × AllHave least.definition rs word))

-- of the entries of the key that are not retired, the first with another text than the least one is this
pub record IsOther (rs : List Row) (word : List ℕ) (second : Id) : Type 0 where
  pub least : Row
  pub is_least : IsLeast rs word least
  pub other : Row
  pub there : Contains rs other
  pub answers : Answers word other
  pub is : other.entry ≡ second
  pub differs : other.definition ≢ least.definition
  pub first : (r : Row) → Contains rs r → Answers word r → is_before r.entry second ≡ true → r.definition ≡ least.definition

-- why a key names no entry: no entry that is not retired has it, or two of these have different texts; or memory ran out
abbrev pub IsObjection : List Row → List ℕ → KeyFault → Type 0
IsObjection rs word NoEntry = IsNoId word × ((r : Row) → Contains rs r → ¬ (Answers word r))
IsObjection rs word (Several second) = IsNoId word × IsOther rs word second
IsObjection rs word Memory = Unit {0}

-- ---- one row after another

-- the first row that answers the word, and the rows after it
abbrev pub IsFirstAnswer : List ℕ → List Row → Row → List Row → Type 0
IsFirstAnswer word rs first later = (before : List Row) × (rs ≡ before ++ first ∷ later) × Answers word first × ((r : Row) → Contains before r → ¬ (Answers word r))

-- among rows, the first that answers the word and has another text is this
abbrev pub IsFirstOther : List ℕ → List ℕ → List Row → Id → Type 0
IsFirstOther word text rs i = (before : List Row) × (other : Row) × (after : List Row) × (rs ≡ before ++ other ∷ after) × Answers word other × (other.definition ≢ text) × (other.entry ≡ i) × AllHave text before word

-- ---- one word of a command that changes entries

-- an id names its entry, and a key its only entry that is not retired
abbrev pub NamesOnly : List Row → List ℕ → Id → Type 0
NamesOnly rs word e = Spells word e ⊎ IsAnsweredBy rs word (e ∷ [])

-- ids that are not exactly one: none, or several, the second of which is this one
abbrev pub IsNotOne : List Id → KeyFault → Type 0
IsNotOne es NoEntry = es ≡ []
IsNotOne es (Several second) = (least : Id) × (more : List Id) × (es ≡ least ∷ second ∷ more)
IsNotOne es Memory = ⊥

-- why a key does not name its only entry: no entry that is not retired has it, or several have; or memory ran out
abbrev pub IsNotOnly : List Row → List ℕ → KeyFault → Type 0
IsNotOnly rs word NoEntry = (es : List Id) × IsAnsweredBy rs word es × IsNotOne es NoEntry
IsNotOnly rs word (Several second) = (es : List Id) × IsAnsweredBy rs word es × IsNotOne es (Several second)
IsNotOnly rs word Memory = Unit {0}

-- ---- some words

-- the entries that they name, in their order
abbrev pub StandFor : List Row → List (List ℕ) → List Id → Type 0
StandFor rs [] es = es ≡ []
StandFor rs (w ∷ ws) es = (e : Id) × (later : List Id) × NamesOnly rs w e × StandFor rs ws later × (es ≡ e ∷ later)

-- why the first of them that names no entry does not
abbrev pub Object : List Row → List (List ℕ) → KeyFault → Type 0
Object rs [] f = f ≡ Memory
Object rs (w ∷ ws) f = IsNotOnly rs w f ⊎ ((e : Id) × NamesOnly rs w e × Object rs ws f)
