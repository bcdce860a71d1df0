-- A fault of the bytes of a source is a fault of reading the source.
use Rattle.std.proofs.Common.{◌≡◌, ℕ, ◌+◌, List, subst}
use Rattle.byte_io.specs.Device.{SourceState}
use Rattle.byte_io.specs.Whole.{GivesAtMost}
use Rattle.reg_file.specs.declared.fault.FileFault.{FileFault}
use Rattle.reg_file.specs.declared.fault.ReadFileFault.{ReadFileFault}
use Rattle.reg_file.specs.declared.fault.ReadFileFault.TheVariants as reading
use Rattle.reg_file.specs.Files.{most, ReadsBytes, IsReadFaultBy, IsReadFromFaultBy}

module _ (Has : List ℕ → FileFault → ℕ → Type 0) (old new : SourceState) (bytes : List ℕ) (reads : ReadsBytes old new bytes) where
  gives : GivesAtMost (most + 1) old new
  gives = (bytes, reads.given, reads.front, reads.bounded, reads.quiet)

  of_bytes : (f : ReadFileFault) → IsReadFaultBy Has bytes f → IsReadFromFaultBy Has old new f
  of_bytes (reading.File f place) h = (bytes, reads, h.0, h.1)
  of_bytes reading.TooLarge h = (bytes, reads, h)
  of_bytes (reading.ReadFailed n) h = absurd h
  of_bytes reading.Memory h = gives

  -- the same for bytes that are equal to those of the source
  pub from_source : (given : List ℕ) (f : ReadFileFault) → given ≡ bytes → IsReadFaultBy Has given f → IsReadFromFaultBy Has old new f
  from_source given f e h = of_bytes f (subst (λ b. IsReadFaultBy Has b f) e h)
