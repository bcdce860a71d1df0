use Rattle.std.proofs.Common.{◌≡◌, ◌++◌, List, map, length}
use Rattle.reg_report.specs.Lines.{IsReady, sheet_text}
use Rattle.reg_lint.specs.Known.{has_mark}
use Rattle.reg_sense.specs.Claimants.{detail_seen}
use Rattle.reg_lint.specs.Lines.{lines_of}
use Rattle.reg_lint.specs.Subjects.{Subject, AreKept}
use Rattle.reg_lint.proofs.lines.write_lines.Given as goal

abbrev pub invariant-loop-one : goal.invariant-loop-one
invariant-loop-one l = IsReady l.wtr
    × ((ss : List Subject) → AreKept l.kept ss → (rs : List Subject) × AreKept l.left rs
    × (sheet_text l.wtr ++ lines_of (has_mark l.known) l.rule rs (map detail_seen l.rest) ≡ sheet_text l.initial.wtr ++ lines_of (has_mark l.known) l.rule ss (map detail_seen l.found)))

abbrev pub decreases-loop-one : goal.decreases-loop-one
decreases-loop-one l = length l.rest
