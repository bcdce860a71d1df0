-- The nodes that some tokens open and do not close.
use Rattle.std.specs.Prelude.{ℕ, ◌-◌, List, [], ◌∷◌, ◌++◌, length, take}
use Rattle.wkt_tree.specs.declared.token.TokenKind.{TokenKind}
use Rattle.wkt_tree.specs.declared.token.TokenKind.TheVariants.{Word, Quoted, Number, Comma, Open, Close}
use Rattle.wkt_tree.specs.Tree.{Tok}

-- the keywords of the nodes that are open after a token, from those open before it and the bytes of the previous token: an
-- opening delimiter opens the node named by the previous token, and a closing one closes the innermost node
abbrev pub behind : TokenKind → List (List ℕ) → List ℕ → List (List ℕ)
behind Word path word = path
behind Quoted path word = path
behind Number path word = path
behind Comma path word = path
behind (Open d) path word = path ++ word ∷ []
behind (Close d) path word = take (length path - 1) path

abbrev pub opened_by : List (List ℕ) → List ℕ → List Tok → List (List ℕ)
opened_by path word [] = path
opened_by path word (t ∷ ts) = opened_by (behind t.kind path word) t.piece.bytes ts

-- from no token on; the outermost first
abbrev pub opened_by_all : List Tok → List (List ℕ)
opened_by_all ts = opened_by [] [] ts
