-- Each reading of a condensed text is a reading of the text.
use Rattle.std.specs.Prelude.{ℕ, List}
use Rattle.wkt_tree.specs.Tree.{Item, tokens}
use Rattle.wkt_tree.specs.Faults.{IsOutline}
use Rattle.wkt_grammar.specs.Bare.{bare}
use Rattle.crs_part.specs.declared.crs.CrsParts.{CrsParts}
use Rattle.wkt_grammar.specs.Denotes.{DenotesParts}
use Rattle.wkt_write.specs.Alike.{Alike}

-- the text is written with the tokens of a tree that is the same except for places and the spelling of numerals
pub record IsTreeAlike (text : List ℕ) (i : Item) : Type 0 where
  pub item : Item
  pub outline : IsOutline text (tokens item)
  pub same : Alike (bare i) (bare item)

-- if the other text is written with the tokens of a tree, the text is written with those of a tree that is the same
abbrev pub IsWrittenAs : List ℕ → List ℕ → Type 0
IsWrittenAs text other = (i : Item) → IsOutline other (tokens i) → IsTreeAlike text i

-- the text is written with the tokens of a tree that denotes the value
pub record IsTextOf (v : CrsParts) (text : List ℕ) : Type 0 where
  pub item : Item
  pub outline : IsOutline text (tokens item)
  pub denotes : DenotesParts (bare item) v

-- each value that the other spells, the text spells
abbrev pub IsReadAs : List ℕ → List ℕ → Type 0
IsReadAs text other = (v : CrsParts) → IsTextOf v other → IsTextOf v text
