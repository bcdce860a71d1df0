use Rattle.std.proofs.Common.{◌≡◌, ◌++◌, List, length}
use Rattle.reg_report.specs.Lines.{IsReady, sheet_text}
use Rattle.reg_lint.specs.Known.{has_mark}
use Rattle.reg_lint.specs.Disputes.{AreSettled}
use Rattle.reg_lint.specs.Lines.{all_lines}
use Rattle.reg_lint.specs.Subjects.{Subject, AreKept}
use Rattle.reg_lint.proofs.lines.write_all_lines.Given as goal

abbrev pub invariant-loop-rule : goal.invariant-loop-rule
invariant-loop-rule l = IsReady l.wtr
    × ((ss : List Subject) → AreKept l.kept ss → AreSettled l.disputes ss
    → sheet_text l.wtr ++ all_lines (has_mark l.known) l.rest ss ≡ sheet_text l.initial.wtr ++ all_lines (has_mark l.known) l.rules ss)

abbrev pub decreases-loop-rule : goal.decreases-loop-rule
decreases-loop-rule l = length l.rest
