use Rattle.std.proofs.Common.{◌≡◌, take}
use Rattle.std.specs.List.{flat_map}
use Rattle.crs_said.specs.Letters.{kept_of}
use Rattle.crs_said.proofs.letters.letters.Given as goal

abbrev pub invariant-loop-byte : goal.invariant-loop-byte
invariant-loop-byte l = l.text.items ≡ flat_map kept_of (take l.byte-index l.name)
