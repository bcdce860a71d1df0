use Rattle.std.proofs.Common.{◌≡◌, true}
use Rattle.reg_op.proofs.StatusLemmas.{status-kept, replaced_by-kept}
use Rattle.reg_op.proofs.RowLemmas.{rows-kept, conflicts-kept, awaited-kept}
use Rattle.reg_op.proofs.laws.status_of_kept.Goals as goal

pub returns : goal.returns
returns c = record { status = status-kept; replaced_by = replaced_by-kept; rows = rows-kept; conflicts = λ has s key. conflicts-kept (λ text k. has text k ≡ true) s key; awaited = awaited-kept }
