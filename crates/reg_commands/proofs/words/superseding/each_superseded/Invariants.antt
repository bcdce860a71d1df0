use Rattle.std.proofs.Common.{drop}
use Rattle.reg_commands.proofs.EachLemmas.{Completes, Passes}
use Rattle.reg_commands.proofs.words.superseding.each_superseded.Given as goal

abbrev pub invariant-loop-old : goal.invariant-loop-old
invariant-loop-old l =
    Completes l.replica l.note l.newer l.fn.register l.entries (drop l.old-index l.entries) l.made.register l.made.lines.items
    × Passes l.replica l.note l.newer l.fn.register l.entries (drop l.old-index l.entries) l.made.register
