use Rattle.std.proofs.Common.{subst}
use Rattle.reg_report.specs.Lines.{sheet_text}
use Rattle.reg_query.specs.ChangesSeen.{change_seen}
use Rattle.reg_query.specs.DiffLines.{IsChangeLine}
use Rattle.reg_query.proofs.SheetLemmas.{next_line, last_line}
use Rattle.reg_query.proofs.diff.lines.changes_text.Goals as goal

pub loop-change-preserved : goal.loop-change-preserved
loop-change-preserved c =
    let line = subst (λ k. IsChangeLine (change_seen k) c.in_ok-write_row.ensures.0) c.change-item.is c.in_ok-write_row.ensures.1 in (
      c.in_ok-write_row.ensures.2.ready,
      next_line c.args.changes.now c.loop-change.change-index c.change-item.result (sheet_text c.loop-change.wtr) (sheet_text c.write_row.new.wtr) c.in_ok-write_row.ensures.0 c.loop-change-test.true line
          c.in_ok-write_row.ensures.2.text c.loop-change.invariant.1,
    )

pub returns-in-Ok : goal.returns-in-Ok
returns-in-Ok c = last_line c.args.changes.now c.loop-change.change-index (sheet_text c.loop-change.wtr) c.in-Ok.text.items c.loop-change-test.false c.in-Ok.ensures.ok c.loop-change.invariant.1
