use Rattle.std.proofs.Common.{◌≡◌, ◌++◌, map, take}
use Rattle.reg_disorder.specs.Keeping.{entry_of}
use Rattle.reg_disorder.proofs.settling.rival.push_entries.Given as goal

abbrev pub invariant-loop-rival : goal.invariant-loop-rival
invariant-loop-rival l = l.ids.items ≡ l.initial.ids.items ++ map entry_of (take l.rival-index l.rivals)
