-- Rows that are written as CSV.
use Rattle.std.specs.Prelude.{◌≡◌, false, ℕ, List, ◌++◌}
use Rattle.std.specs.Global.{Vec}
use Rattle.csv.specs.Writing.{row_text, default_writer, writer_under, writer_pending, writer_setup, fields_written, has_written}
use Rattle.csv.specs.declared.writer.Writer.{Writer}

abbrev pub Sheet : Type 0
Sheet = Writer (Vec ℕ)

abbrev pub sheet_text : Sheet → List ℕ
sheet_text w = (writer_under w).items ++ writer_pending w

-- at the start of a row, with the crate's defaults
pub record IsReady (w : Sheet) : Type 0 where
  pub setup : writer_setup w ≡ default_writer
  pub fields : fields_written w ≡ 0
  pub wrote : has_written w ≡ false

pub record WritesRow (old new : Sheet) (fields : List (List ℕ)) : Type 0 where
  pub text : sheet_text new ≡ sheet_text old ++ row_text default_writer fields
  pub ready : IsReady new
