-- The reports of what is not in order.
use Rattle.std.specs.Prelude.{◌≡◌, ℕ, List}
use Rattle.reg_op.specs.Contents.{Content}
use Rattle.reg_op.specs.Rows.{rows}
use Rattle.reg_report.specs.Lines.{conflicts_header, contender_fields, sheet_of}
use Rattle.reg_disorder.specs.declared.disorder.Disorder.{Disorder}
use Rattle.reg_disorder.specs.Disorders.{Keyed, AreAmiss}

abbrev pub keyed_fields : Keyed → List (List ℕ)
keyed_fields l = contender_fields l.key.authority l.key.code l.entry

-- a header, and a line for each entry: its authority, its code and its id
abbrev pub IsAmissText : Disorder → Content → List ℕ → Type 0
IsAmissText way x text = (ls : List Keyed) × AreAmiss way (rows x.ops) ls × (text ≡ sheet_of conflicts_header keyed_fields ls)
