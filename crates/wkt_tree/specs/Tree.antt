-- Trees, and the tokens that they are written with.
use Rattle.std.specs.Prelude.{◌≡◌, ℕ, zero, suc, List, [], ◌∷◌, ◌++◌}
use Rattle.wkt_tree.specs.declared.token.Delimiter.{Delimiter}
use Rattle.wkt_tree.specs.declared.token.TokenKind.{TokenKind}
use Rattle.wkt_tree.specs.declared.token.TokenKind.TheVariants.{Word, Quoted, Number, Comma, Open, Close}

-- where a token begins, and its bytes
pub record Piece : Type 0 where
  pub place : ℕ
  pub bytes : List ℕ

-- a token, without its address
pub record Tok : Type 0 where
  pub kind : TokenKind
  pub piece : Piece

-- An item is a quoted text, a number, a word or a node. A node is a keyword, an opening delimiter, the items, and the
-- closing delimiter of the same kind. A comma separates two items.
mutual
  pub data Item : Type 0 where
    text : Piece → Item
    number : Piece → Item
    word : Piece → Item
    node : Piece → Delimiter → Piece → Items → Piece → Item

  pub data Items : Type 0 where
    last : Item → Items
    more : Item → Piece → Items → Items

-- a token of this kind
abbrev pub tok : TokenKind → Piece → Tok
tok k p = record { kind = k; piece = p }

-- the tokens of an item, from the left
abbrev mutual
  pub tokens : Item → List Tok
  tokens (text p) = tok Quoted p ∷ []
  tokens (number p) = tok Number p ∷ []
  tokens (word p) = tok Word p ∷ []
  tokens (node k d o items c) = tok Word k ∷ tok (Open d) o ∷ all_tokens items ++ tok (Close d) c ∷ []

  pub all_tokens : Items → List Tok
  all_tokens (last i) = tokens i
  all_tokens (more i c rest) = tokens i ++ tok Comma c ∷ all_tokens rest

-- at most n delimiters are open at once
abbrev mutual
  pub Within : ℕ → Item → Type 0
  Within n (text p) = Unit {0}
  Within n (number p) = Unit {0}
  Within n (word p) = Unit {0}
  Within zero (node k d o items c) = ⊥
  Within (suc n) (node k d o items c) = AllWithin n items

  pub AllWithin : ℕ → Items → Type 0
  AllWithin n (last i) = Within n i
  AllWithin n (more i c rest) = Within n i × AllWithin n rest

-- the tokens are those of a tree with at most n delimiters open at once
pub record IsTree (n : ℕ) (ts : List Tok) : Type 0 where
  pub keyword : Piece
  pub delimiter : Delimiter
  pub opening : Piece
  pub items : Items
  pub closing : Piece
  pub within : Within n (node keyword delimiter opening items closing)
  pub spelled : ts ≡ tokens (node keyword delimiter opening items closing)

-- the tokens begin a tree: they are a front of some tree's tokens
pub record Begins (n : ℕ) (ts : List Tok) : Type 0 where
  pub others : List Tok
  pub tree : IsTree n (ts ++ others)
