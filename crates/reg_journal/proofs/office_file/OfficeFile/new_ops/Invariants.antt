use Rattle.std.proofs.Common.{◌≡◌, ◌++◌, length}
use Rattle.reg_journal.specs.Adding.{new_ops}
use Rattle.reg_journal.proofs.office_file.OfficeFile.new_ops.Given as goal

abbrev pub invariant-loop-rest : goal.invariant-loop-rest
invariant-loop-rest l = l.made.items ++ new_ops l.self l.rest ≡ new_ops l.self l.ops

abbrev pub decreases-loop-rest : goal.decreases-loop-rest
decreases-loop-rest l = length l.rest
