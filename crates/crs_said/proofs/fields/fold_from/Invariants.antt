use Rattle.std.proofs.Common.{◌≡◌}
use Rattle.crs_exact.specs.Names.{plain}
use Rattle.crs_said.proofs.ChangedLemmas.{changed}
use Rattle.crs_said.proofs.fields.fold_from.Given as goal

abbrev pub invariant-loop-i : goal.invariant-loop-i
invariant-loop-i l = l.bytes ≡ changed plain l.initial.bytes l.start l.i
