use Rattle.std.proofs.Common.{◌≡◌, false, map, take}
use Rattle.std.specs.List.{list_any}
use Rattle.reg_texts.specs.Said.{said}
use Rattle.reg_texts.specs.Listing.{names_successor}
use Rattle.reg_texts.proofs.listing.is_any_named.Given as goal

abbrev pub invariant-loop-saying : goal.invariant-loop-saying
invariant-loop-saying l = list_any names_successor (map said (take l.saying-index l.sayings)) ≡ false
