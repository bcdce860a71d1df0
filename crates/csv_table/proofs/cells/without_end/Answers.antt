use Rattle.std.proofs.lemmas.Str.Ascii.{trim_ascii_end_is}
use Rattle.csv_table.proofs.cells.without_end.Goals as goal

pub returns : goal.returns
returns c = rw c.as_bytes.ensures.value at (trim_ascii_end_is _ _ c.trim_ascii_end.ensures.value)
