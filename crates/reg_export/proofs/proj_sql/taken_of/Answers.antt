use Rattle.std.proofs.Common.{ap, ◌∙◌}
use Rattle.crs_export.specs.Rows.{rows_of}
use Rattle.crs_export.specs.Tables.{table_of}
use Rattle.reg_export.proofs.proj_sql.taken_of.Goals as goal

pub returns : goal.returns
returns c = record {
  title = c.title_of-title.result;
  titled = c.title_of-title.ensures;
  crs = c.in_ok-crs.crs;
  spelled = c.in_ok-crs.ensures;
  by_text = c.table_of-table.ensures ∙ ap table_of c.parts-2.ensures;
  by_rows = c.in_ok-rows.ensures ∙ ap (rows_of c.title_of-title.result) c.parts.ensures;
}
