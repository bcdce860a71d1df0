use Rattle.std.proofs.Common.{refl}
use Rattle.reg_import.specs.Readings.{readings}
use Rattle.reg_import.proofs.ListedLemmas.{one_listed}
use Rattle.reg_import.proofs.listing.ImportLines.with.Goals as goal

pub returns : goal.returns
returns c = λ texts ts h.
    c.in_ok-lines.ensures _ _
    (one_listed c.args.listing.now texts ts c.args.self _ h c.args.text c.args.told.now refl c.in_ok-push.ensures.items c.in_ok-push_action.ensures (c.in_ok-note_key.ensures (readings texts) h.keys))
