-- Trees whose leaves are tokens.
use Rattle.std.specs.Prelude.{◌≡◌, ℕ, zero, suc, Bool, false, ◌&&◌, List, [], ◌∷◌, Some, IsUtf8}
use Rattle.std.specs.List.{list_all}
use Rattle.std.specs.Char.{is_ascii_alphabetic}
use Rattle.wkt_tree.specs.declared.token.TokenKind.{TokenKind}
use Rattle.wkt_tree.specs.declared.token.TokenKind.TheVariants.{Word, Number}
use Rattle.wkt_tree.specs.Bytes.{is_word_byte, begun_by}
use Rattle.wkt_tree.specs.Tokens.{Follow, IsReadable, quoted}
use Rattle.wkt_grammar.specs.Bare.{Bare, Bares, text, number, word, node, none, and}

-- the bytes are a token of this kind
pub record IsToken (kind : TokenKind) (bytes : List ℕ) : Type 0 where
  pub first : ℕ
  pub others : List ℕ
  pub parts : bytes ≡ first ∷ others
  pub begun : begun_by first ≡ Some kind
  pub follow : Follow kind others
  pub readable : IsReadable kind bytes

-- a text of UTF-8 between its marks
pub record IsText (bytes : List ℕ) : Type 0 where
  pub content : List ℕ
  pub is : bytes ≡ quoted content
  pub utf8 : IsUtf8 content

-- a letter, and letters, digits and `_`
abbrev pub is_name : List ℕ → Bool
is_name [] = false
is_name (b ∷ bs) = is_ascii_alphabetic b && list_all is_word_byte bs

-- the leaves are tokens, each node has an argument, and at most n delimiters are open at once
abbrev mutual
  pub WellFormed : ℕ → Bare → Type 0
  WellFormed n (text b) = IsText b
  WellFormed n (number b) = IsToken Number b
  WellFormed n (word b) = IsToken Word b
  WellFormed zero (node k xs) = ⊥
  WellFormed (suc n) (node k xs) = IsToken Word k × SomeWellFormed n xs

  pub SomeWellFormed : ℕ → Bares → Type 0
  SomeWellFormed n none = ⊥
  SomeWellFormed n (and i r) = WellFormed n i × AllWellFormed n r

  pub AllWellFormed : ℕ → Bares → Type 0
  AllWellFormed n none = Unit {0}
  AllWellFormed n (and i r) = WellFormed n i × AllWellFormed n r
