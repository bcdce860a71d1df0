use Rattle.std.proofs.Common.{map, take, drop}
use Rattle.reg_report.specs.Seen.{row_seen}
use Rattle.reg_disorder.specs.Keeping.{At, Holds}
use Rattle.reg_disorder.proofs.Steps.{Goes}
use Rattle.reg_disorder.proofs.Kept.{Kept}
use Rattle.reg_disorder.proofs.settling.settling.settled.Given as goal

abbrev pub invariant-loop-entry : goal.invariant-loop-entry
invariant-loop-entry l =
    Goes (map row_seen l.rows) l.keeps (take l.entry-index l.keeps) (drop l.entry-index l.keeps) l.ids.items
    × ((at : At) × Holds l.kept at × Kept (map row_seen l.rows) l.keeps (take l.entry-index l.keeps) l.ids.items at)
