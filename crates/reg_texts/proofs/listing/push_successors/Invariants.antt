use Rattle.std.proofs.Common.{◌≡◌, ◌++◌, map, take}
use Rattle.std.specs.List.{flat_map}
use Rattle.reg_texts.specs.Said.{said}
use Rattle.reg_texts.specs.Listing.{successor_text}
use Rattle.reg_texts.proofs.listing.push_successors.Given as goal

abbrev pub invariant-loop-saying : goal.invariant-loop-saying
invariant-loop-saying l = l.text.items ≡ l.fn.text.items ++ flat_map successor_text (map said (take l.saying-index l.sayings))
