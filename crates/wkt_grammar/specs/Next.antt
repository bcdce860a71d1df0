-- The next token.
use Rattle.std.specs.Prelude.{◌≡◌, ℕ, Bool, true, false, List, [], ◌∷◌}
use Rattle.wkt_tree.specs.declared.token.TokenKind.{TokenKind}
use Rattle.wkt_tree.specs.declared.token.TokenKind.TheVariants.{Word, Quoted, Number, Comma, Open, Close}
use Rattle.wkt_tree.specs.Tree.{Tok}
use Rattle.wkt_grammar.specs.declared.table.Argument.{Argument}
use Rattle.wkt_grammar.specs.declared.table.Argument.TheVariants as arguments
use Rattle.wkt_grammar.specs.Slots.{argument_of}

abbrev pub is_open : TokenKind → Bool
is_open (Open d) = true
is_open Word = false
is_open Quoted = false
is_open Number = false
is_open Comma = false
is_open (Close d) = false

abbrev pub is_comma : TokenKind → Bool
is_comma Comma = true
is_comma Word = false
is_comma Quoted = false
is_comma Number = false
is_comma (Open d) = false
is_comma (Close d) = false

-- whether the next token is of a kind
abbrev pub next_is : (TokenKind → Bool) → List Tok → Bool
next_is p [] = false
next_is p (t ∷ ts) = p t.kind

-- where the next token begins
abbrev pub place_next : List Tok → ℕ
place_next [] = 0
place_next (t ∷ ts) = t.piece.place

-- no opening delimiter follows
abbrev pub Follows : List Tok → Type 0
Follows ts = next_is is_open ts ≡ false

-- the kind of the argument that begins with the next token
abbrev pub coming : List Tok → Argument
coming [] = arguments.OtherNode
coming (t ∷ ts) = argument_of t.kind t.piece.bytes (next_is is_open ts)
