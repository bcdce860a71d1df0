-- The next leaf.
use Rattle.std.specs.Prelude.{◌≡◌, ℕ, ◌<◌, ◌^◌, Bool, true, false, List, [], ◌∷◌, drop}
use Rattle.crs_number.specs.Numeral.{Spells}
use Rattle.crs_number.specs.Count.{SpellsWhole, is_count}
use Rattle.crs_number.specs.declared.decimals.Decimal.{Decimal}
use Rattle.crs_part.specs.declared.text.Text.{Text}
use Rattle.wkt_tree.specs.declared.token.TokenKind.{TokenKind}
use Rattle.wkt_tree.specs.declared.token.TokenKind.TheVariants.{Word, Quoted, Number, Comma, Open, Close}
use Rattle.wkt_tree.specs.Tree.{Tok}
use Rattle.wkt_tree.specs.Tokens.{IsQuoted}
use Rattle.wkt_grammar.specs.Leaves.{undoubled, SameWord}

-- if a number token is next, it spells the decimal, and the tokens after it remain
abbrev pub TakesNumber : List Tok → List Tok → Decimal → Type 0
TakesNumber old new d = (t : Tok) (rest : List Tok) → old ≡ t ∷ rest → t.kind ≡ Number → Spells t.piece.bytes d.coefficient d.exponent × (new ≡ rest)

-- if a quoted token is next, the text is between its marks, and the tokens after it remain
abbrev pub TakesText : List Tok → List Tok → Text → Type 0
TakesText old new v = (t : Tok) (rest : List Tok) → old ≡ t ∷ rest → t.kind ≡ Quoted → IsQuoted t.piece.bytes × (v.bytes ≡ undoubled false (drop 1 t.piece.bytes)) × (new ≡ rest)

-- if a number token that is a count is next, it spells the count, and the tokens after it remain
abbrev pub TakesCount : List Tok → List Tok → ℕ → Type 0
TakesCount old new n = (t : Tok) (rest : List Tok) → old ≡ t ∷ rest → t.kind ≡ Number → is_count t.piece.bytes ≡ true → SpellsWhole t.piece.bytes n × (n < 2 ^ 32) × (new ≡ rest)

-- if a listed word is next, it is the word of the value, and the tokens after it remain
abbrev pub TakesWord : {A : Type 0} → (List ℕ → Bool) → (A → List ℕ) → List Tok → List Tok → A → Type 0
TakesWord is_listed word old new v = (t : Tok) (rest : List Tok) → old ≡ t ∷ rest → is_listed t.piece.bytes ≡ true → SameWord (word v) t.piece.bytes × (new ≡ rest)

abbrev pub is_number : TokenKind → Bool
is_number Number = true
is_number Word = false
is_number Quoted = false
is_number Comma = false
is_number (Open d) = false
is_number (Close d) = false

abbrev pub next_is_number : List Tok → Bool
next_is_number [] = false
next_is_number (t ∷ ts) = is_number t.kind
