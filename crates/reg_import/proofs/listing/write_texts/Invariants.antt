use Rattle.std.proofs.Common.{length, map}
use Rattle.std.specs.String.{string_bytes}
use Rattle.reg_import.specs.Lines.{lines_of}
use Rattle.reg_import.proofs.LineLemmas.{SoFar}
use Rattle.reg_import.proofs.listing.write_texts.Given as goal

abbrev pub invariant-loop-text : goal.invariant-loop-text
invariant-loop-text l = SoFar (map string_bytes l.listing.names.now) l.listing.changes (lines_of l.initial.texts l.initial.told) l.texts l.told l.initial.wtr l.wtr

abbrev pub decreases-loop-text : goal.decreases-loop-text
decreases-loop-text l = length l.texts
