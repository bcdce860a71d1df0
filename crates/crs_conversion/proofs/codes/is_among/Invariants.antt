use Rattle.std.proofs.Common.{◌≡◌, length}
use Rattle.crs_conversion.specs.Codes.{is_among}
use Rattle.crs_conversion.proofs.codes.is_among.Given as goal

abbrev pub invariant-loop-first : goal.invariant-loop-first
invariant-loop-first l = is_among l.rest l.name ≡ is_among l.names l.name

abbrev pub decreases-loop-first : goal.decreases-loop-first
decreases-loop-first l = length l.rest
