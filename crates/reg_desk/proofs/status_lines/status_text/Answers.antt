use Rattle.std.proofs.Common.{◌<◌, ◌≤◌, min, Bor, ℕ, List, [], length, arith}
use Rattle.reg_desk.specs.declared.look.Look.{Look}
use Rattle.reg_desk.specs.declared.look.Look.TheVariants as look
use Rattle.reg_desk.proofs.StatusLemmas.{line_at, lines_done}
use Rattle.reg_report.specs.Lines.{sheet_text}
use Rattle.reg_desk.proofs.status_lines.status_text.Goals as goal

pub loop-i-preserved : goal.loop-i-preserved
loop-i-preserved c =
    let none : Bor (List ℕ) = record { ref_ptr = (0, 0); now = [] } in
    let zero_look : Look = look.Figures 0 (record { operations = 0; entries = 0; valid = 0; superseded = 0; retired = 0; conflicts = 0; awaited = 0; gaps = 0; duplicates = 0; dangling = 0; withdrawn = 0 }) in
    let within : c.loop-i.i < length c.args.names.now = omega (arith, c.loop-i-test.true, c.min-i-end.ensures) in
    let inside : c.loop-i.i < length c.args.looks.now = omega (arith, c.loop-i-test.true, c.min-i-end.ensures) in (
      c.in_ok-write_line.ensures.2.ready,
      line_at c.args.names.now c.args.looks.now c.loop-i.i none zero_look (sheet_text c.loop-i.wtr) (sheet_text c.write_line.new.wtr) c.in_ok-write_line.ensures.0 within inside
          c.in_ok-write_line.ensures.1 c.in_ok-write_line.ensures.2.text c.loop-i.invariant.1,
    )

pub returns-in-Ok : goal.returns-in-Ok
returns-in-Ok c =
    let past : min (length c.args.names.now) (length c.args.looks.now) ≤ c.loop-i.i = omega (arith, c.loop-i-test.false, c.min-i-end.ensures) in
    lines_done c.args.names.now c.args.looks.now c.loop-i.i (sheet_text c.loop-i.wtr) c.in-Ok.text.items past c.in-Ok.ensures.ok c.loop-i.invariant.1
