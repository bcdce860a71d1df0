use Rattle.std.proofs.Common.{List, ℕ, inl, inr}
use Rattle.std.specs.Prelude.{Contains}
use Rattle.crs_value.specs.declared.crs.Crs.{Crs}
use Rattle.wkt_crs.specs.Definition.{IsCrsOf}
use Rattle.reg_op.specs.Contents.{Content}
use Rattle.reg_op.specs.Rows.{Row, rows}
use Rattle.reg_file.specs.Files.{ReadsAs}
use Rattle.reg_report.proofs.EntryLemmas.{row_is_spelled}
use Rattle.reg_commands.proofs.laws.exported_is_read.Goals as goal

read : (bytes : List ℕ) (x : Content) → ReadsAs bytes x → (r : Row) → Contains (rows x.ops) r → (v : Crs) × IsCrsOf v r.definition
read bytes x (inl held) r has = row_is_spelled x held.content r has
read bytes x (inr held) r has = row_is_spelled x held.0.content r has

pub returns : goal.returns
returns c = read
