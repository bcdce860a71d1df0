-- Skipping items, and the places of keywords.
use Rattle.std.specs.Prelude.{◌≡◌, ℕ, Bool, true, false, List, [], ◌∷◌, ◌++◌}
use Rattle.crs_value.specs.declared.broken.Whose.{Whose}
use Rattle.crs_value.specs.declared.broken.Whose.TheVariants.{First, Second, Whole}
use Rattle.wkt_tree.specs.declared.token.Delimiter.{Delimiter}
use Rattle.wkt_tree.specs.declared.token.TokenKind.{TokenKind}
use Rattle.wkt_tree.specs.declared.token.TokenKind.TheVariants.{Word, Quoted, Number, Comma, Open, Close}
use Rattle.wkt_tree.specs.Tree.{Piece, Tok, tok, Item, Items, node, more, tokens, all_tokens}
use Rattle.wkt_grammar.specs.Next.{Follows, place_next}
use Rattle.wkt_crs.specs.Faults.{keyword_place}

abbrev pub is_word : TokenKind → Bool
is_word Word = true
is_word Quoted = false
is_word Number = false
is_word Comma = false
is_word (Open d) = false
is_word (Close d) = false

-- if an item is next, the tokens after it remain
abbrev pub PassesItem : List Tok → List Tok → Type 0
PassesItem old new = (i : Item) (rest : List Tok) → old ≡ tokens i ++ rest → Follows rest → new ≡ rest

-- if the items of a node are next, the tokens after its closing delimiter remain
abbrev pub PassesItems : List Tok → List Tok → Type 0
PassesItems old new = (items : Items) (d : Delimiter) (c : Piece) (rest : List Tok) → old ≡ all_tokens items ++ tok (Close d) c ∷ rest → new ≡ rest

-- if a node with two arguments or more is next, the tokens from its second argument on remain
abbrev pub PassesFirst : List Tok → List Tok → Type 0
PassesFirst old new = (k : Piece) (d : Delimiter) (o : Piece) (i : Item) (comma : Piece) (items : Items) (c : Piece)
    → old ≡ tokens (node k d o (more i comma items) c) → new ≡ all_tokens items ++ tok (Close d) c ∷ []

-- the place of the keyword of the next node; or that of its second or third argument, if it has three arguments or more
abbrev pub TellsPlace : List Tok → Whose → ℕ → Type 0
TellsPlace toks Whole at = at ≡ place_next toks
TellsPlace toks First at = (k : Piece) (d : Delimiter) (o : Piece) (i : Item) (a : Piece) (j : Item) (b : Piece) (items : Items) (c : Piece)
    → toks ≡ tokens (node k d o (more i a (more j b items)) c) → at ≡ keyword_place (node k d o (more i a (more j b items)) c) First
TellsPlace toks Second at = (k : Piece) (d : Delimiter) (o : Piece) (i : Item) (a : Piece) (j : Item) (b : Piece) (items : Items) (c : Piece)
    → toks ≡ tokens (node k d o (more i a (more j b items)) c) → at ≡ keyword_place (node k d o (more i a (more j b items)) c) Second
