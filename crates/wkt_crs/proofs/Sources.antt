-- The faults of the text of a source.
use Rattle.std.proofs.Common.{◌≡◌, List, ℕ, inr, refl}
use Rattle.byte_io.specs.Device.{SourceState}
use Rattle.wkt_crs.specs.declared.fault.ReadFault.{ReadFault}
use Rattle.wkt_crs.specs.declared.fault.ReadFault.TheVariants as fault
use Rattle.wkt_crs.specs.declared.definition.DefinitionFault.{DefinitionFault}
use Rattle.wkt_crs.specs.declared.definition.DefinitionFault.TheVariants as undefined
use Rattle.wkt_crs.specs.declared.source.ReadFromFault.TheVariants as from
use Rattle.wkt_crs.specs.declared.source.DefineFromFault.TheVariants as define
use Rattle.wkt_crs.specs.Faults.{FirstFault, IsGrammatical}
use Rattle.wkt_crs.specs.Unspelled.{as_read}
use Rattle.wkt_crs.specs.Definition.{IsTextFault}
use Rattle.wkt_crs.specs.Source.{ReadsText, Refuses, IsReadFromFault, IsDefineFromFault}
use Rattle.wkt_crs.proofs.Defining.{not_memory}
use Rattle.wkt_crs.proofs.Verdicts.{value_or_fault}

-- a text with a first fault other than `Memory` spells no value
refuses : (old new : SourceState) (text : List ℕ) (f : ReadFault) → ¬ (f ≡ fault.Memory) → ReadsText old new text → FirstFault text f → Refuses old new f
refuses old new text f other r h = (text, r, h, λ v s. other (value_or_fault text v f s h))

-- a first fault of the text is a fault of reading it from the source, if `Memory` occurs only for grammatical texts
pub read_told : (old new : SourceState) (text : List ℕ) (f : ReadFault) → ReadsText old new text → FirstFault text f → (f ≡ fault.Memory → IsGrammatical text) → IsReadFromFault old new (from.Refused f)
read_told old new text (fault.Text f) r h g = refuses old new text (fault.Text f) (λ e. absurd cc) r h
read_told old new text (fault.Slot f) r h g = refuses old new text (fault.Slot f) (λ e. absurd cc) r h
read_told old new text (fault.Broken condition at) r h g = refuses old new text (fault.Broken condition at) (λ e. absurd cc) r h
read_told old new text fault.Memory r h g = inr (text, r, g refl)

pub define_told : (old new : SourceState) (text : List ℕ) (f : DefinitionFault) → ReadsText old new text → IsTextFault text f → (f ≡ undefined.Memory → IsGrammatical text) → IsDefineFromFault old new (define.Refused f)
define_told old new text (undefined.Read f) r h g = refuses old new text (as_read f) (not_memory f) r h
define_told old new text undefined.NoIdentifier r (v, spells, none) g = (v, (text, r, spells), none)
define_told old new text undefined.CanonicalTooLong r (v, spells, some, long) g = (v, (text, r, spells), some, long)
define_told old new text undefined.NotCanonical r h g = absurd h
define_told old new text undefined.Memory r h g = inr (text, r, g refl)
