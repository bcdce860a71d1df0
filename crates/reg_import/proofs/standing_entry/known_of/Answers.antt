use Rattle.std.proofs.Common.{refl}
use Rattle.reg_import.proofs.standing_entry.known_of.Goals as goal

pub returns : goal.returns
returns c = record { entry = refl; definition = c.in_ok-definition.ensures; keyed = c.in_ok-key.ensures; valid = c.is_valid.ensures }
