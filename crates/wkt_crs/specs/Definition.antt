-- Definitions, and why a reference system or a text is none.
use Rattle.std.specs.Prelude.{◌≡◌, ℕ, ◌≤◌, ◌<◌, List, [], ◌∷◌, length, Option, Some, None, codes}
use Rattle.crs_part.specs.declared.identifiers.Ident.{Ident}
use Rattle.crs_part.specs.declared.text.Text.{Text}
use Rattle.crs_part.specs.Slots.{ids_of}
use Rattle.crs_part.specs.Slots as slots
use Rattle.crs_value.specs.declared.crs.Crs.{Crs}
use Rattle.crs_value.specs.declared.key.Key.{Key}
use Rattle.crs_value.specs.Keys.{IsKeyOf}
use Rattle.wkt_crs.specs.declared.fault.ReadFault.{ReadFault}
use Rattle.wkt_crs.specs.declared.fault.Unspelled.{Unspelled}
use Rattle.wkt_crs.specs.declared.definition.DefinitionFault.{DefinitionFault}
use Rattle.wkt_crs.specs.declared.definition.DefinitionFault.TheVariants as fault
use Rattle.wkt_crs.specs.Spells.{Spells, canon}
use Rattle.wkt_crs.specs.Faults.{FirstFault}
use Rattle.wkt_crs.specs.Unspelled.{as_read, unspelled, name_of, place_of}

-- the reference system has no identifier of its own
abbrev pub HasNone : Crs → Type 0
HasNone crs = ids_of crs.parts ≡ []

-- the key of its first identifier
abbrev pub HasKey : Crs → Key → Type 0
HasKey crs key = (id : Ident) (others : List Ident) → ids_of crs.parts ≡ id ∷ others → IsKeyOf id key

-- its name
abbrev pub HasName : Crs → Text → Type 0
HasName crs name = name.bytes ≡ (slots.name_of crs.parts).bytes

-- the bytes are the canonical text of a reference system with an identifier, and not too long
pub record IsDefinition (bytes : List ℕ) : Type 0 where
  pub crs : Crs
  pub canonical : bytes ≡ canon crs
  pub short : length bytes ≤ 65536
  pub identified : ¬ (HasNone crs)

-- the bytes are a definition, and what they spell has this key and this name
pub record IsDefinedBy (key : Key) (name : Text) (bytes : List ℕ) : Type 0 where
  pub definition : ∥ IsDefinition bytes ∥₁
  pub keyed : (crs : Crs) → Spells bytes crs → HasKey crs key
  pub named : (crs : Crs) → Spells bytes crs → HasName crs name

-- the text spells it
abbrev pub IsCrsOf : Crs → List ℕ → Type 0
IsCrsOf crs bytes = (bytes ≡ canon crs) × Spells bytes crs

-- the text spells a reference system of this name
abbrev pub IsNameIn : Text → List ℕ → Type 0
IsNameIn name bytes = (crs : Crs) × IsCrsOf crs bytes × HasName crs name

-- the first identifier in the text has this key
abbrev pub IsKeyIn : Key → List ℕ → Type 0
IsKeyIn key bytes = (crs : Crs) × Spells bytes crs × (¬ (HasNone crs)) × HasKey crs key

abbrev pub IsNewFault : Crs → DefinitionFault → Type 0
IsNewFault crs (fault.Read f) = ⊥
IsNewFault crs fault.NoIdentifier = HasNone crs
IsNewFault crs fault.CanonicalTooLong = (¬ (HasNone crs)) × (65536 < length (canon crs))
IsNewFault crs fault.NotCanonical = ⊥
IsNewFault crs fault.Memory = Unit {0}

abbrev pub IsCanonicalFault : List ℕ → DefinitionFault → Type 0
IsCanonicalFault bytes fault.CanonicalTooLong = 65536 < length bytes
IsCanonicalFault bytes (fault.Read f) = (length bytes ≤ 65536) × FirstFault bytes (as_read f)
IsCanonicalFault bytes fault.NoIdentifier = (length bytes ≤ 65536) × ((crs : Crs) × Spells bytes crs × HasNone crs)
IsCanonicalFault bytes fault.NotCanonical = (length bytes ≤ 65536) × ((crs : Crs) × Spells bytes crs × ¬ (HasNone crs) × ¬ (bytes ≡ canon crs))
IsCanonicalFault bytes fault.Memory = Unit {0}

-- why a text gives no definition: the value that it spells has none, or it spells no value
abbrev pub IsTextFault : List ℕ → DefinitionFault → Type 0
IsTextFault text (fault.Read f) = FirstFault text (as_read f)
IsTextFault text fault.NoIdentifier = (crs : Crs) × Spells text crs × HasNone crs
IsTextFault text fault.CanonicalTooLong = (crs : Crs) × Spells text crs × (¬ (HasNone crs)) × (65536 < length (canon crs))
IsTextFault text fault.NotCanonical = ⊥
IsTextFault text fault.Memory = Unit {0}

-- why a canonical text, which is not too long, is not a definition
abbrev pub IsSeenFault : List ℕ → DefinitionFault → Type 0
IsSeenFault bytes (fault.Read f) = ⊥
IsSeenFault bytes fault.NoIdentifier = (crs : Crs) × Spells bytes crs × HasNone crs
IsSeenFault bytes fault.CanonicalTooLong = ⊥
IsSeenFault bytes fault.NotCanonical = ⊥
IsSeenFault bytes fault.Memory = Unit {0}

abbrev pub refused_or_memory : Option Unspelled → DefinitionFault
refused_or_memory (Some f) = fault.Read f
refused_or_memory None = fault.Memory

-- the fault of reading a definition
abbrev pub of_read : ReadFault → DefinitionFault
of_read f = refused_or_memory (unspelled f)

-- the name of a fault
abbrev pub fault_name : DefinitionFault → List ℕ
fault_name (fault.Read f) = name_of f
fault_name fault.NoIdentifier = codes "NoIdentifier"
fault_name fault.CanonicalTooLong = codes "CanonicalTooLong"
fault_name fault.NotCanonical = codes "NotCanonical"
fault_name fault.Memory = codes "Memory"

-- the place of a fault
abbrev pub fault_place : DefinitionFault → Option ℕ
fault_place (fault.Read f) = place_of f
fault_place f = None
