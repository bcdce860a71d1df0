use Rattle.std.proofs.Common.{List, map}
use Rattle.reg_report.specs.Conflicts.{KeyBytes}
use Rattle.reg_report.specs.Seen.{row_seen}
use Rattle.reg_import.specs.Gone.{HasKeys, AreGone}
use Rattle.reg_import.proofs.gone.keep_gone.Given as goal

abbrev pub invariant-loop-row : goal.invariant-loop-row
invariant-loop-row l = (texts : List KeyBytes) → HasKeys l.keys texts → AreGone l.authority texts (map row_seen l.yielded) (map row_seen l.gone.items)
