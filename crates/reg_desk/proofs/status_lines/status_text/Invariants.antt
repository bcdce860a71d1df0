use Rattle.std.proofs.Common.{drop, map}
use Rattle.reg_report.specs.Lines.{sheet_text, IsReady}
use Rattle.reg_desk.proofs.StatusLemmas.{Completes, text_of}
use Rattle.reg_desk.proofs.status_lines.status_text.Given as goal

abbrev pub invariant-loop-i : goal.invariant-loop-i
invariant-loop-i l = IsReady l.wtr × Completes (map text_of l.names) l.looks (map text_of (drop l.i l.names)) (drop l.i l.looks) (sheet_text l.wtr)
