use Rattle.std.proofs.Common.{◌≡◌, ◌++◌, length}
use Rattle.reg_export.specs.KeyNames.{named}
use Rattle.reg_export.proofs.naming.push_part.Given as goal

abbrev pub invariant-loop-byte : goal.invariant-loop-byte
invariant-loop-byte l = l.name.items ++ named l.capitals l.rest ≡ l.initial.name.items ++ named l.capitals l.text

abbrev pub decreases-loop-byte : goal.decreases-loop-byte
decreases-loop-byte l = length l.rest
