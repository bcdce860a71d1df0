use Rattle.std.proofs.Common.{◌≡◌, ◌||◌, Bool, length}
use Rattle.reg_op.specs.Ids.{Id}
use Rattle.reg_journal.specs.Standing.{Leasts}
use Rattle.reg_journal.proofs.ForgedLemmas.{is_told}
use Rattle.reg_journal.proofs.office_file.OfficeFile.first_told.Given as goal

-- the least id of which the operations before the rest tell
abbrev pub invariant-loop-op : goal.invariant-loop-op
invariant-loop-op l = (t : Id → Bool) × Leasts t l.least × ((i : Id) → is_told l.self l.ops i ≡ (t i || is_told l.self l.rest i))

abbrev pub decreases-loop-op : goal.decreases-loop-op
decreases-loop-op l = length l.rest
