-- The next tokens, as the trees that they are, and the values built from them.
use Rattle.std.specs.Prelude.{◌≡◌, ℕ, Bool, false, ◌&&◌, List, [], ◌∷◌, ◌++◌, Result, IfOk, Option, Some, drop}
use Rattle.wkt_tree.specs.declared.token.TokenKind.TheVariants.{Comma}
use Rattle.wkt_tree.specs.Tree.{Piece, Tok, tok, Item, tokens}
use Rattle.wkt_grammar.specs.declared.table.Takes.{Takes}
use Rattle.wkt_grammar.specs.declared.table.Node.{Node}
use Rattle.wkt_grammar.specs.declared.table.Keyword.{Keyword}
use Rattle.wkt_grammar.specs.Rows.{takes}
use Rattle.wkt_grammar.specs.Words.{keyword_of}
use Rattle.wkt_grammar.specs.Next.{next_is, is_comma, coming, Follows}
use Rattle.wkt_grammar.specs.Bare.{Bare, Bares, node, bare}
use Rattle.wkt_grammar.specs.SecondEdition.{Fitted, Fitting, AllFitting}
use Rattle.wkt_grammar.specs.Runs.{Fields, IsNode, Each}

-- the tokens are those of an item that is x, and then the rest
pub record Next (x : Bare) (toks rest : List Tok) : Type 0 where
  pub item : Item
  pub is : bare item ≡ x
  pub tokens_are : toks ≡ tokens item ++ rest
  pub follows : Follows rest

-- the tokens are those of these arguments, each after a comma, and then the rest
abbrev pub Behind : List Bare → List Tok → List Tok → Type 0
Behind [] toks rest = toks ≡ rest
Behind (x ∷ xs) toks rest = (comma : Piece) × (behind : List Tok) × (mid : List Tok) × (toks ≡ tok Comma comma ∷ behind) × Next x behind mid × Behind xs mid rest

-- the same, with some token before the first argument
abbrev pub Come : List Bare → List Tok → List Tok → Type 0
Come [] toks rest = toks ≡ rest
Come (x ∷ xs) toks rest = (first : Tok) × (behind : List Tok) × (mid : List Tok) × (toks ≡ first ∷ behind) × Next x behind mid × Behind xs mid rest

-- a comma is next, and then an argument that a slot of this kind takes
abbrev pub comes : Takes → List Tok → Bool
comes kind toks = next_is is_comma toks && takes kind (coming (drop 1 toks))

-- If an argument that fits is next, it denotes what is built, and the tokens after it remain.
abbrev pub Builds : {A E : Type 0} → Takes → (Bare → A → Type 0) → List Tok → List Tok → Result A E → Type 0
Builds kind D old new result = (x : Bare) (rest : List Tok) → Fitting kind x → Next x old rest → IfOk result (λ v. D x v × (new ≡ rest))

-- the same for a node with any keyword, by its row
abbrev pub BuildsNode : {A E : Type 0} → Node → (A → Fields) → List Tok → List Tok → Result A E → Type 0
BuildsNode row F old new result = (x : Bare) (keyword : List ℕ) (items : Bares) (means : Keyword) (rest : List Tok)
    → x ≡ node keyword items → keyword_of keyword ≡ Some means → Fitted row items → Next x old rest → IfOk result (λ v. IsNode means row (F v) x × (new ≡ rest))

-- the same after one token
abbrev pub BuildsOne : {A E : Type 0} → Takes → (Bare → A → Type 0) → List Tok → List Tok → Result A E → Type 0
BuildsOne kind D old new result = (x : Bare) (first : Tok) (behind rest : List Tok) → Fitting kind x → old ≡ first ∷ behind → Next x behind rest → IfOk result (λ v. D x v × (new ≡ rest))

-- the same, for a slot that may be empty: the result is `Some`
abbrev pub BuildsSome : {A E : Type 0} → Takes → (Bare → A → Type 0) → List Tok → List Tok → Result (Option A) E → Type 0
BuildsSome kind D old new result = (x : Bare) (first : Tok) (behind rest : List Tok) → Fitting kind x → old ≡ first ∷ behind → Next x behind rest → IfOk result (λ o. (v : _) × (o ≡ Some v) × D x v × (new ≡ rest))

-- if all next arguments of this kind fit, each after a comma, they denote what is built, and the tokens after them remain
abbrev pub BuildsEach : {A E : Type 0} → Takes → (Bare → A → Type 0) → List Tok → List Tok → Result (List A) E → Type 0
BuildsEach kind D old new result = (run : List Bare) (end : List Tok) → AllFitting kind run → Behind run old end → Follows end → comes kind end ≡ false → IfOk result (λ vs. Each D vs run × (new ≡ end))
