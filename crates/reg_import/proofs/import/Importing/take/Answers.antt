use Rattle.std.proofs.Common.{refl}
use Rattle.reg_import.proofs.TakingLemmas.{one_taken}
use Rattle.reg_import.proofs.import.Importing.take.Goals as goal

pub returns : goal.returns
returns c = λ x replica note differs rs ts h.
    one_taken x replica note differs rs ts c.args.self _ c.args.reading.now c.in_ok-told.told h (c.in_ok-told.ensures.told h.at h.index) refl refl refl refl c.or_spent-is_spent.ensures
