-- The text of a comparison.
use Rattle.std.specs.Prelude.{◌≡◌, ◌≢◌, ℕ, List, ◌∷◌, codes}
use Rattle.reg_op.specs.Contents.{Content}
use Rattle.reg_op.specs.Rows.{rows}
use Rattle.reg_report.specs.Lines.{entries_header, IsEntryLine, IsSheet}
use Rattle.reg_query.specs.Changes.{Change, sign_text, AreChanges}

abbrev pub changes_header : List (List ℕ)
changes_header = codes "change" ∷ entries_header

-- the sign, and then the fields of the report of entries
abbrev pub IsChangeLine : Change → List (List ℕ) → Type 0
IsChangeLine c fields = (rest : List (List ℕ)) × IsEntryLine c.row rest × (fields ≡ sign_text c.sign ∷ rest)

-- a header, and a line for each change from the one content's rows to the other's
abbrev pub IsDiff : Content → Content → List ℕ → Type 0
IsDiff x y text = (cs : List Change) × AreChanges (rows x.ops) (rows y.ops) cs × IsSheet changes_header IsChangeLine cs text

-- their rows are not the same
abbrev pub Differ : Content → Content → Type 0
Differ x y = rows x.ops ≢ rows y.ops
