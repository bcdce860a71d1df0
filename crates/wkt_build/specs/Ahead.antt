-- The facts that a reader remembers about the next keyword, and about the argument after a comma.
use Rattle.std.specs.Prelude.{◌≡◌, ⊤, true, false, List, drop, Option, Some, None}
use Rattle.wkt_tree.specs.Tree.{Tok}
use Rattle.wkt_grammar.specs.declared.table.Argument.TheVariants as arguments
use Rattle.wkt_grammar.specs.declared.table.Keyword.{Keyword}
use Rattle.wkt_grammar.specs.Next.{next_is, is_comma, coming}
use Rattle.wkt_build.specs.Choices.{next_keyword}
use Rattle.wkt_build.specs.declared.reader.Ahead.{Ahead}
use Rattle.wkt_build.specs.declared.reader.Ahead.TheVariants.{NoComma, Node, Anything}

-- the remembered fact about the next keyword is true
abbrev pub IsKnown : Option Keyword → List Tok → Type 0
IsKnown None toks = ⊤
IsKnown (Some keyword) toks = next_keyword toks ≡ Some keyword

-- the remembered fact about the next argument is true
abbrev pub IsTold : Ahead → List Tok → Type 0
IsTold NoComma toks = ⊥
IsTold (Node keyword) toks = coming toks ≡ arguments.Node keyword
IsTold Anything toks = ⊤

-- the remembered fact about the argument after a comma is true
abbrev pub IsAhead : Ahead → List Tok → List Tok → Type 0
IsAhead NoComma behind toks = next_is is_comma toks ≡ false
IsAhead (Node keyword) behind toks = (next_is is_comma toks ≡ true) × (behind ≡ drop 1 toks) × IsTold (Node keyword) behind
IsAhead Anything behind toks = (next_is is_comma toks ≡ true) × (behind ≡ drop 1 toks)
