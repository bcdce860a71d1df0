use Rattle.std.proofs.Common.{◌≡◌, ◌++◌, map, take}
use Rattle.reg_texts.specs.Listing.{on_line}
use Rattle.reg_texts.proofs.key.push_on_line.Given as goal

abbrev pub invariant-loop-byte : goal.invariant-loop-byte
invariant-loop-byte l = l.text.items ≡ l.fn.text.items ++ map on_line (take l.byte-index l.bytes)
