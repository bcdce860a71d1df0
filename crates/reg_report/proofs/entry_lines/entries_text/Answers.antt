use Rattle.reg_report.specs.Lines.{sheet_text}
use Rattle.reg_report.proofs.SheetLemmas.{line_more, lines_done}
use Rattle.reg_report.proofs.entry_lines.entries_text.Goals as goal

pub loop-row-preserved : goal.loop-row-preserved
loop-row-preserved c = (
  c.in_ok-write_entry.ensures.2.ready,
  line_more c.args.rows.now c.loop-row.rest.now c.in-Some.others.now c.in-Some.row.now (sheet_text c.loop-row.wtr) (sheet_text c.write_entry.new.wtr) c.in_ok-write_entry.ensures.0 c.in-Some.ensures.cases.0 c.in_ok-write_entry.ensures.1 c.in_ok-write_entry.ensures.2.text c.loop-row.invariant.1,
)

pub returns-in-Ok : goal.returns-in-Ok
returns-in-Ok c = lines_done c.args.rows.now c.loop-row.rest.now (sheet_text c.loop-row.wtr) c.in-Ok.text.items c.in_default.ensures.cases c.in-Ok.ensures.ok c.loop-row.invariant.1
