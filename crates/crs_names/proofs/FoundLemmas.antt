-- What is found once all nodes are met.
use Rattle.std.proofs.Common.{◌≡◌, Option, Some, None}
use Rattle.std.specs.Option.{option_or}

pub all_met : {X : Type 0} (found want : Option X) → option_or found None ≡ want → found ≡ want
all_met None want e = e
all_met (Some x) want e = e
