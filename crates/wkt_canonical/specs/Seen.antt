-- The findings for a reference system: its name, and its first identifier.
use Rattle.std.specs.Prelude.{◌≡◌, List, [], ◌∷◌, Option, None, IsSomeAnd}
use Rattle.crs_part.specs.Slots.{name_of, ids_of}
use Rattle.crs_part.specs.declared.identifiers.Ident.{Ident}
use Rattle.crs_part.specs.declared.crs.CrsParts.{CrsParts}
use Rattle.crs_value.specs.Keys.{text_of}
use Rattle.wkt_canonical.specs.declared.identifiers.Identifier.{Identifier}
use Rattle.wkt_canonical.specs.declared.crs.SeenSystem.{SeenSystem}

-- the identifier has this authority and this code, where a number counts as its canonical text
pub record Identifies (seen : Identifier) (id : Ident) : Type 0 where
  pub authority : id.authority.bytes ≡ seen.authority.now
  pub code : text_of id.code ≡ seen.code.now

-- the first of these, or none
abbrev pub IsFirst : List Ident → Option Identifier → Type 0
IsFirst [] seen = seen ≡ None
IsFirst (id ∷ others) seen = IsSomeAnd seen (λ first. Identifies first id)

-- the reference system has this name and this first identifier
pub record IsSeen (seen : SeenSystem) (value : CrsParts) : Type 0 where
  pub name : (name_of value).bytes ≡ seen.name.now
  pub identifier : IsFirst (ids_of value) seen.identifier
