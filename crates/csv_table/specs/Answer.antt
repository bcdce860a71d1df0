-- What is written in the place of the rows of a command.
use Rattle.std.specs.Prelude.{◌≡◌, ℕ, List}
use Rattle.byte_io.specs.Device.{SinkState}
use Rattle.byte_io.specs.Whole.{WritesAll, IsCutAt}
use Rattle.csv_table.specs.Records.{ForRecords}
use Rattle.csv_table.specs.Table.{table}
use Rattle.csv_table.specs.declared.answer.TableFault.{TableFault}
use Rattle.csv_table.specs.declared.answer.TableFault.TheVariants as fault

-- the text is the table of the records of these rows: it has each field of each row, with marks
abbrev pub IsTableOf : List ℕ → List ℕ → Type 0
IsTableOf rows text = ForRecords rows (λ records. text ≡ table records)

-- the table was written, and nothing else
abbrev pub IsTold : List ℕ → SinkState → SinkState → Type 0
IsTold rows before after = (text : List ℕ) × IsTableOf rows text × WritesAll text before after

-- exactly its first bytes were; or there was no memory for it, and nothing was written
abbrev pub IsUntold : List ℕ → SinkState → SinkState → TableFault → Type 0
IsUntold rows before after (fault.WriteFailed n) = (text : List ℕ) × IsTableOf rows text × IsCutAt n text before after
IsUntold rows before after fault.Memory = after ≡ before
