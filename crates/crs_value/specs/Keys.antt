-- The key of a coordinate reference system.
use Rattle.std.specs.Prelude.{◌≡◌, ℕ, List, [], ◌∷◌, Option, None, IsSomeAnd}
use Rattle.crs_number.specs.Canonical.{canonical}
use Rattle.crs_part.specs.declared.identifiers.Ident.{Ident}
use Rattle.crs_part.specs.declared.identifiers.NumberOrText.{NumberOrText}
use Rattle.crs_part.specs.declared.identifiers.NumberOrText.TheVariants.{Number, Text}
use Rattle.crs_value.specs.declared.key.Key.{Key}

-- a number counts as its canonical text
abbrev pub text_of : NumberOrText → List ℕ
text_of (Number number) = canonical number.coefficient number.exponent
text_of (Text text) = text.bytes

-- the key has the authority and the code of the identifier
pub record IsKeyOf (id : Ident) (key : Key) : Type 0 where
  pub authority : key.authority.bytes ≡ id.authority.bytes
  pub code : key.code.bytes ≡ text_of id.code

-- the key of the first identifier, or none without an identifier
abbrev pub IsFirstKey : List Ident → Option Key → Type 0
IsFirstKey [] key = key ≡ None
IsFirstKey (id ∷ others) key = IsSomeAnd key (IsKeyOf id)
