-- The readings of texts.
use Rattle.std.specs.Prelude.{◌≡◌, ◌≢◌, ℕ, ◌+◌, Bool, true, false, List, [], ◌∷◌, map}
use Rattle.std.specs.Option.{unwrap_or}
use Rattle.wkt_crs.specs.Spells.{SpellsCanon}
use Rattle.wkt_crs.specs.Definition.{IsDefinition, IsKeyIn, IsTextFault, fault_place}
use Rattle.wkt_crs.specs.declared.definition.DefinitionFault.TheVariants.{Memory}
use Rattle.reg_report.specs.Conflicts.{KeyBytes, bytes_of}
use Rattle.reg_import.specs.Quoted.{shown_quoted}
use Rattle.reg_import.specs.declared.reading.FileText.{FileText}
use Rattle.reg_import.specs.declared.reading.ReadText.{ReadText}
use Rattle.reg_import.specs.declared.reading.ReadText.TheVariants as reading

-- the text spells a value with this canonical text, which is a definition with this key; or it gives none, for this reason
abbrev pub IsReading : List ℕ → ReadText → Type 0
IsReading text (reading.Defined definition key) = SpellsCanon text definition × IsDefinition definition × IsKeyIn key definition
IsReading text (reading.Unread f) = IsTextFault text f × (f ≢ Memory)

-- the text is no definition
abbrev pub is_unread : ReadText → Bool
is_unread (reading.Defined definition key) = false
is_unread (reading.Unread f) = true

-- the place in the text that is reported if it is rejected: that of its fault, or its first byte
abbrev pub place_in : ReadText → ℕ
place_in (reading.Defined definition key) = 0
place_in (reading.Unread f) = unwrap_or (fault_place f) 0

-- its first text in quotation marks as UTF-8, if it is no definition
abbrev pub quoted_in : List ℕ → ReadText → List ℕ
quoted_in text (reading.Defined definition key) = []
quoted_in text (reading.Unread f) = shown_quoted text

-- these bytes are in the file with this number from this place on, and this is their reading
pub record IsFileText (file place : ℕ) (bytes : List ℕ) (t : FileText) : Type 0 where
  pub in_file : t.file ≡ file
  pub begins : t.place ≡ place
  pub told_at : t.at ≡ place + place_in t.reading
  pub reads : IsReading bytes t.reading
  pub quotes : t.quoted.items ≡ quoted_in bytes t.reading

abbrev pub readings : List FileText → List ReadText
readings texts = map (λ (t : FileText). t.reading) texts

-- the keys of those that are definitions
abbrev pub keys_in : List ReadText → List KeyBytes
keys_in [] = []
keys_in (reading.Defined definition key ∷ rs) = bytes_of key ∷ keys_in rs
keys_in (reading.Unread f ∷ rs) = keys_in rs
