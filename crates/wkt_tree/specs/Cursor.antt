-- The tokens of a cursor.
use Rattle.std.specs.Prelude.{ℕ, ◌<◌, ◌≤◌, ◌^◌, All, IfSome, List, [], ◌∷◌, length, drop, Option, Some, None}
use Rattle.wkt_tree.specs.declared.token.Token.{Token}
use Rattle.wkt_tree.specs.Tree.{Tok}
use Rattle.wkt_tree.specs.Tokens.{Cut, IsSound}
use Rattle.wkt_tree.specs.Cut.{cut}
use Rattle.wkt_tree.specs.Faults.{view}

-- the bytes of the token are what its kind says
abbrev pub IsSoundToken : Tok → Type 0
IsSoundToken t = IsSound t.kind t.piece.bytes

-- the next token, and those of the text from the place after it on
abbrev pub tokens_from : Option Token → ℕ → List ℕ → List Tok
tokens_from None behind text = []
tokens_from (Some t) behind text = view t ∷ cut behind (drop behind text)

-- the tokens of the text from the place on
abbrev pub tokens_at : ℕ → List ℕ → List Tok
tokens_at place text = cut place (drop place text)

-- from the place on the text has these tokens, and all of them are sound
pub record IsSoundCut (place : ℕ) (text : List ℕ) : Type 0 where
  pub within : place ≤ length text
  pub short : length text < 2 ^ 64
  pub cut : Cut place (drop place text) (tokens_at place text)
  pub sound : All IsSoundToken (tokens_at place text)

-- the state of a cursor: the next token is sound, and so are the tokens after it
pub record IsStand (token : Option Token) (behind : ℕ) (text : List ℕ) : Type 0 where
  pub coming : IfSome token (λ t. IsSound t.kind t.bytes.now)
  pub rest : IsSoundCut behind text
