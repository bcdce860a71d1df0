-- Exported texts: those of all entries that are not retired, and that of one entry.
use Rattle.std.specs.Prelude.{◌≡◌, ◌++◌, ◌∷◌, [], true, List, ℕ}
use Rattle.std.specs.List.{flat_map}
use Rattle.crs_value.specs.declared.crs.Crs.{Crs}
use Rattle.wkt_crs.specs.Spells.{canon, pretty}
use Rattle.wkt_crs.specs.Definition.{IsCrsOf}
use Rattle.reg_op.specs.Set as set
use Rattle.reg_op.specs.Ids.{Id}
use Rattle.reg_op.specs.Operations.{Op, Ops}
use Rattle.reg_op.specs.Kept.{entering}
use Rattle.reg_op.specs.Rows.{rows_at}
use Rattle.reg_op.specs.Contents.{Content}
use Rattle.reg_report.specs.Exports.{row_line, export}
use Rattle.reg_commands.specs.declared.wkt.Form.{Form}
use Rattle.reg_commands.specs.declared.wkt.Form.TheVariants.{Canonical, Indented}

-- ---- all entries that are not retired

-- the line of the entry that an operation makes, if it does
abbrev pub op_line : Ops → Op → List ℕ
op_line s o = flat_map row_line (rows_at s o.id o.body)

-- the text has the lines of a content
abbrev pub IsExport : Content → List ℕ → Type 0
IsExport x text = text ≡ export x.ops

-- ---- one entry

abbrev pub text_in : Form → Crs → List ℕ
text_in Canonical crs = canon crs
text_in Indented crs = pretty crs

-- this is the text, or the line, of the value that the definition spells
abbrev pub IsDefinitionText : Form → List ℕ → List ℕ → Type 0
IsDefinitionText form definition text = (crs : Crs) × IsCrsOf crs definition × (text ≡ text_in form crs)

abbrev pub IsDefinitionLine : Form → List ℕ → List ℕ → Type 0
IsDefinitionLine form definition line = (crs : Crs) × IsCrsOf crs definition × (line ≡ text_in form crs ++ 10 ∷ [])

-- the content has the entry, with some note, and this is the line of the value that its definition spells
pub record IsLineOf (form : Form) (x : Content) (entry : Id) (line : List ℕ) : Type 0 where
  pub definition : List ℕ
  pub note : List ℕ
  pub entered : set.contains x.ops (entering entry definition note) ≡ true
  pub crs : Crs
  pub spelled : IsCrsOf crs definition
  pub is : line ≡ text_in form crs ++ 10 ∷ []
