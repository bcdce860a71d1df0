use Rattle.std.proofs.Common.{◌≡◌, take}
use Rattle.crs_exact.specs.Said.{pieces_said}
use Rattle.crs_exact.proofs.finding.pieces_said.Given as goal

abbrev pub invariant-loop-piece : goal.invariant-loop-piece
invariant-loop-piece l = l.text.items ≡ pieces_said (take l.piece-index l.pieces)
