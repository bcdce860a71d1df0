use Rattle.std.proofs.Common.{List, map, drop}
use Rattle.reg_op.specs.Rows.{Row}
use Rattle.reg_disorder.specs.Marks.{mark_seen, AreMarks}
use Rattle.reg_news.specs.Codes.{IsTold, HasSaidByOne, code_seen}
use Rattle.reg_news.proofs.CodeLemmas.{Picking}
use Rattle.reg_news.proofs.codes.told_among.Given as goal

abbrev pub invariant-loop-mark : goal.invariant-loop-mark
invariant-loop-mark l =
    (rs ss : List Row) → AreMarks rs (map mark_seen l.before) → AreMarks ss (map mark_seen l.after) → HasSaidByOne rs ss l.changed → Picking (IsTold rs ss) (map mark_seen l.after) (map mark_seen (drop l.mark-index l.after)) (map code_seen l.made.items)
