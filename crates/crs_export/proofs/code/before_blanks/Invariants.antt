use Rattle.std.proofs.Common.{◌≡◌, length, reverse}
use Rattle.crs_export.specs.Codes.{after_blanks}
use Rattle.crs_export.proofs.code.before_blanks.Given as goal

abbrev pub invariant-loop-byte : goal.invariant-loop-byte
invariant-loop-byte l = after_blanks (reverse l.rest) ≡ after_blanks (reverse l.text)

abbrev pub decreases-loop-byte : goal.decreases-loop-byte
decreases-loop-byte l = length l.rest
