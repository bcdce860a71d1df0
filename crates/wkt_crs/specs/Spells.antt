-- Which texts spell a coordinate reference system.
use Rattle.std.specs.Prelude.{◌≡◌, ℕ, List}
use Rattle.crs_value.specs.declared.crs.Crs.{Crs}
use Rattle.wkt_tree.specs.Tree.{Item, tokens}
use Rattle.wkt_tree.specs.Faults.{IsOutline}
use Rattle.wkt_grammar.specs.Bare.{bare}
use Rattle.wkt_grammar.specs.Denotes.{DenotesParts}
use Rattle.wkt_grammar.specs.FirstEdition.{FirstDenotesParts}
use Rattle.wkt_grammar.specs.Canon as meaning

-- the text is written with the tokens of a tree that denotes the value, which meets all conditions
pub record Spells (text : List ℕ) (v : Crs) : Type 0 where
  pub item : Item
  pub outline : IsOutline text (tokens item)
  pub denotes : DenotesParts (bare item) v.parts

-- the text spelled the value by the first edition of the grammar
pub record FirstSpells (text : List ℕ) (v : Crs) : Type 0 where
  pub item : Item
  pub outline : IsOutline text (tokens item)
  pub denotes : FirstDenotesParts (bare item) v.parts

-- the canonical text of the value, and the indented one
abbrev pub canon : Crs → List ℕ
canon v = meaning.canon v.parts

abbrev pub pretty : Crs → List ℕ
pretty v = meaning.pretty v.parts

-- the text spells a value, and the other is the canonical text of that
pub record SpellsCanon (text canonical : List ℕ) : Type 0 where
  pub value : Crs
  pub spells : Spells text value
  pub is : canonical ≡ canon value
