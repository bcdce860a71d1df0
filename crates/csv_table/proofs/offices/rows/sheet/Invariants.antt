use Rattle.std.proofs.Common.{◌≡◌, map, take}
use Rattle.csv.specs.Records.{fields_of}
use Rattle.csv_table.specs.Shown.{sheet}
use Rattle.csv_table.specs.Sheets.{IsReady, sheet_text}
use Rattle.csv_table.proofs.offices.rows.sheet.Given as goal

abbrev pub invariant-loop-record : goal.invariant-loop-record
invariant-loop-record l = IsReady l.wtr × (sheet_text l.wtr ≡ sheet l.fn.keeps l.fn.names (map fields_of (take l.record-index l.fn.records)))
