-- The value built from a whole text.
use Rattle.std.specs.Prelude.{◌≡◌, List, Result, IfOk}
use Rattle.crs_part.specs.declared.crs.CrsParts.{CrsParts}
use Rattle.wkt_tree.specs.declared.token.Delimiter.{Delimiter}
use Rattle.wkt_tree.specs.Tree.{Piece, Tok, Items, node, tokens}
use Rattle.wkt_grammar.specs.declared.table.Edition.TheVariants as editions
use Rattle.wkt_grammar.specs.Slots.{IsClean}
use Rattle.wkt_grammar.specs.Bare.{bare}
use Rattle.wkt_grammar.specs.Denotes.{DenotesParts}

-- if the tokens are those of a tree without a slot fault in the second edition, the tree denotes what is built
abbrev pub BuildsParts : {E : Type 0} → List Tok → Result CrsParts E → Type 0
BuildsParts toks result = (k : Piece) (d : Delimiter) (o : Piece) (items : Items) (c : Piece)
    → toks ≡ tokens (node k d o items c) → IsClean editions.Second toks → IfOk result (DenotesParts (bare (node k d o items c)))
