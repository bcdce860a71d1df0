use Rattle.reg_report.specs.Lines.{sheet_text}
use Rattle.reg_query.proofs.LogLemmas.{line_more, lines_done}
use Rattle.reg_query.proofs.log.lines.lines_text.Goals as goal

pub loop-op-preserved : goal.loop-op-preserved
loop-op-preserved c = (
  c.in_ok-write_line.ensures.2.ready,
  line_more c.args.ops.now c.loop-op.rest.now c.in-Some.others.now c.in-Some.op.now (sheet_text c.loop-op.wtr) (sheet_text c.write_line.new.wtr) c.in_ok-write_line.ensures.0 c.in-Some.ensures.cases.0 c.in_ok-write_line.ensures.1 c.in_ok-write_line.ensures.2.text c.loop-op.invariant.1,
)

pub returns-in-Ok : goal.returns-in-Ok
returns-in-Ok c = lines_done c.args.ops.now c.loop-op.rest.now (sheet_text c.loop-op.wtr) c.in-Ok.text.items c.in_default.ensures.cases c.in-Ok.ensures.ok c.loop-op.invariant.1
