use Rattle.std.proofs.Common.{drop}
use Rattle.reg_lint.proofs.TextLemmas.{Goes}
use Rattle.reg_lint.proofs.texts.push_cuts.Given as goal

abbrev pub invariant-loop-cut : goal.invariant-loop-cut
invariant-loop-cut l = Goes l.name l.cuts l.initial.kept.items (drop l.cut-index l.cuts) l.kept.items
