-- Why there is no file of version 1.
use Rattle.std.proofs.Common.{◌≡◌, ◌↔◌, Err, Some, None, Result, refl}
use Rattle.reg_op.specs.Ids.{Id}
use Rattle.reg_op.specs.Contents.{Content}
use Rattle.reg_file.specs.declared.fault.WriteFileFault.TheVariants as writing
use Rattle.reg_file.specs.declared.fault.FirstFileFault.{FirstFileFault}
use Rattle.reg_file.specs.declared.fault.FirstFileFault.TheVariants as first
use Rattle.reg_file.specs.Files.{IsTooLargeIn, IsUnmade, first_noted}
use Rattle.reg_engine.specs.Fault.{first_fault}
use Rattle.reg_commands.specs.Exchange.{HasNoFirst}

pub no_first : {A : Type 0} (x : Content) (f : FirstFileFault)
    → ((id : Id) → (◌≡◌ {A = Result A FirstFileFault} (Err f) (Err (first.HasNote id))) ↔ (first_noted x.ops ≡ Some id))
    → ((◌≡◌ {A = Result A FirstFileFault} (Err f) (Err (first.Write writing.TooLarge))) ↔ ((first_noted x.ops ≡ None) × IsTooLargeIn 1 x))
    → IsUnmade f → HasNoFirst x (first_fault f)
no_first x (first.HasNote id) note large unmade = (note id).0 refl
no_first x (first.Write writing.TooLarge) note large unmade = large.0 refl
no_first x (first.Write (writing.WriteFailed n)) note large unmade = absurd unmade
no_first x (first.Write writing.Memory) note large unmade = tt
