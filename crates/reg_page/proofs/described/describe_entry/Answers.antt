use Rattle.std.proofs.Common.{refl}
use Rattle.reg_page.proofs.described.describe_entry.Goals as goal

pub returns : goal.returns
returns c = record { id = refl; keyed = c.in_ok-key.ensures; note = c.in_ok-note.ensures.items; system = c.in_ok-system.ensures }
