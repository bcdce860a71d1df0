-- Rows as contracts see them.
use Rattle.std.specs.Prelude.{Some}
use Rattle.reg_op.specs.Rows.{Row as RowOf}
use Rattle.reg_report.specs.declared.row.Row.{Row}

abbrev pub row_seen : Row → RowOf
row_seen r = record { entry = r.entry; definition = r.definition; status = Some r.status; newer = r.newer.items }
