-- The statements, row by row.
use Rattle.std.specs.Prelude.{◌≡◌, ◌⊎◌, false, List, [], ◌∷◌, ◌++◌, Some}
use Rattle.reg_op.specs.Ids.{Id}
use Rattle.reg_op.specs.Rows.{Row}
use Rattle.reg_report.specs.Conflicts.{KeyBytes, HasKey}
use Rattle.reg_report.specs.Rows.{HasRow}
use Rattle.reg_texts.specs.Said.{Said, IsLive, SaysStatus}

-- what each of some items gives, one after another
module _ {X Y : Type 0} (Gives : X → List Y → Type 0) where
  abbrev pub Each : List X → List Y → Type 0
  Each [] ys = ys ≡ []
  Each (x ∷ xs) ys = (mine : List Y) × (later : List Y) × Gives x mine × Each xs later × (ys ≡ mine ++ later)

-- the statement that the text of the row is superseded by an entry with the key of the other row
pub record IsOfSuccessor (r newer : Row) (s : Said) : Type 0 where
  pub text : s.text ≡ r.definition
  pub keyed : HasKey r.definition s.key
  pub superseded : s.valid ≡ false
  pub by : (k : KeyBytes) × (s.by ≡ Some k) × HasKey newer.definition k

-- what a row's successor adds: its key, or nothing if it is retired
abbrev pub IsSaidOf : Row → Row → List Said → Type 0
IsSaidOf r newer mine = (IsLive newer × ((s : Said) × IsOfSuccessor r newer s × (mine ≡ s ∷ []))) ⊎ ((¬ (IsLive newer)) × (mine ≡ []))

-- the statement about a row because this entry supersedes it, if there is one
abbrev pub IsSaidBy : List Row → Row → Id → List Said → Type 0
IsSaidBy rs r entry mine = ((newer : Row) × HasRow rs entry newer × IsSaidOf r newer mine) ⊎ (((newer : Row) → ¬ (HasRow rs entry newer)) × (mine ≡ []))

-- the statements about a row: none if it is retired, else its status and its successors
abbrev pub AreOfRow : List Row → Row → List Said → Type 0
AreOfRow rs r mine = (IsLive r × ((s : Said) × (later : List Said) × SaysStatus r s × Each (IsSaidBy rs r) r.newer later × (mine ≡ s ∷ later))) ⊎ ((¬ (IsLive r)) × (mine ≡ []))

-- the statements about all rows
abbrev pub AreGathered : List Row → List Said → Type 0
AreGathered rs all = Each (AreOfRow rs) rs all
