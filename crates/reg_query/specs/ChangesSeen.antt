-- Changes as contracts see them.
use Rattle.reg_report.specs.Seen.{row_seen}
use Rattle.reg_query.specs.declared.diff.change.SignedRow.{SignedRow as Declared}
use Rattle.reg_query.specs.Changes.{Change}

abbrev pub change_seen : Declared → Change
change_seen c = record { sign = c.sign; row = row_seen c.row.now }
