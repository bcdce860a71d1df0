-- The first fault of a text.
use Rattle.std.specs.Prelude.{◌≡◌, ℕ, ◌<◌, ◌≤◌, false, List, [], ◌∷◌, ◌++◌, length, Option, Some, None, Result, Ok, Err, IsUtf8, ◌⊎◌}
use Rattle.std.specs.Str.{IsValidUpTo}
use Rattle.std.specs.List.{AllPass}
use Rattle.wkt_tree.specs.declared.token.TokenKind.{TokenKind}
use Rattle.wkt_tree.specs.declared.token.TokenKind.TheVariants.{Word, Quoted, Number, Comma, Open, Close}
use Rattle.wkt_tree.specs.declared.token.Token.{Token}
use Rattle.wkt_tree.specs.declared.fault.TextFault.{TextFault}
use Rattle.wkt_tree.specs.declared.fault.TextFault.TheVariants.{TooLong, NotUtf8, BadByte, TextOpen, BadNumber, NumberRange, Unexpected, Depth, EndEarly, After}
use Rattle.crs_number.specs.Numeral.{HasForm}
use Rattle.wkt_tree.specs.Bytes.{is_blank, begun_by}
use Rattle.wkt_tree.specs.Tree.{Tok, tok, IsTree, Begins}
use Rattle.wkt_tree.specs.Tokens.{IsNumber, IsUnclosed, Lexeme, Blanks, Lexed, First, Front, Cut}

-- a token without its address
abbrev pub view : Token → Tok
view t = tok t.kind (record { place = t.place; bytes = t.bytes.now })

-- the byte is not a blank and begins no token
abbrev pub NoToken : List ℕ → Type 0
NoToken [] = ⊥
NoToken (b ∷ bs) = (is_blank b ≡ false) × (begun_by b ≡ None)

-- a mark that opens a text, which no mark closes
abbrev pub OpenText : List ℕ → Type 0
OpenText [] = ⊥
OpenText (b ∷ bs) = (begun_by b ≡ Some Quoted) × IsUnclosed bs

-- a number token without the form of a numeral
pub record NoNumeral (bytes : List ℕ) : Type 0 where
  pub token : List ℕ
  pub rest : List ℕ
  pub lexeme : Lexeme Number bytes token rest
  pub formless : ¬ (HasForm token)

-- a number token with the form of a numeral, which spells no decimal
pub record NoDecimal (bytes : List ℕ) : Type 0 where
  pub token : List ℕ
  pub rest : List ℕ
  pub lexeme : Lexeme Number bytes token rest
  pub formed : HasForm token
  pub spells_none : ¬ (IsNumber token)

-- a number token that does not give a number, and the fault that it is
abbrev pub Misread : TokenKind → List ℕ → ℕ → TextFault → Type 0
Misread Number bs place fault = ((fault ≡ BadNumber place) × ¬ (HasForm bs)) ⊎ ((fault ≡ NumberRange place) × HasForm bs × ¬ (IsNumber bs))
Misread Word bs place fault = ⊥
Misread Quoted bs place fault = ⊥
Misread Comma bs place fault = ⊥
Misread (Open d) bs place fault = ⊥
Misread (Close d) bs place fault = ⊥

-- after blanks, there is something at this place
pub record After_blanks (place : ℕ) (bytes : List ℕ) (Is : List ℕ → Type 0) (place' : ℕ) : Type 0 where
  pub from : List ℕ
  pub blank : Blanks place bytes place' from
  pub is : Is from

-- the first token from place on cannot be read
abbrev pub Unreadable : ℕ → List ℕ → TextFault → Type 0
Unreadable place bytes (BadByte at) = After_blanks place bytes NoToken at
Unreadable place bytes (TextOpen at) = After_blanks place bytes OpenText at
Unreadable place bytes (BadNumber at) = After_blanks place bytes NoNumeral at
Unreadable place bytes (NumberRange at) = After_blanks place bytes NoDecimal at
Unreadable place bytes TooLong = ⊥
Unreadable place bytes (NotUtf8 at) = ⊥
Unreadable place bytes (Unexpected at) = ⊥
Unreadable place bytes (Depth at) = ⊥
Unreadable place bytes (EndEarly at) = ⊥
Unreadable place bytes (After at) = ⊥

-- the result of reading the first token
abbrev pub Reads : ℕ → List ℕ → Result (Option Token) TextFault → Type 0
Reads place bytes (Ok (Some t)) = (rest : List ℕ) × First place bytes (view t) rest
Reads place bytes (Ok None) = AllPass is_blank bytes
Reads place bytes (Err fault) = Unreadable place bytes fault

-- the result of the lexer for the first token, before a number is read
abbrev pub Lexes : ℕ → List ℕ → Result (Option Token) TextFault → Type 0
Lexes place bytes (Ok (Some t)) = (rest : List ℕ) × Lexed place bytes (view t) rest
Lexes place bytes (Ok None) = AllPass is_blank bytes
Lexes place bytes (Err fault) = Unreadable place bytes fault

-- ---- the first fault

-- the text up to a place is tokens that begin a tree
pub record Begun (text : List ℕ) : Type 0 where
  pub tokens : List Tok
  pub place : ℕ
  pub rest : List ℕ
  pub front : Front 0 text tokens place rest
  pub begins : Begins 16 tokens

-- the next token is read, and the tokens up to it begin no tree
pub record Refused (text : List ℕ) (at : ℕ) : Type 0 where
  pub before : Begun text
  pub token : Tok
  pub rest : List ℕ
  pub read : First before.place before.rest token rest
  pub here : token.piece.place ≡ at
  pub refused : Begins 16 (before.tokens ++ token ∷ []) → ⊥

-- the tokens up to the one that is refused
abbrev pub upto : {text : List ℕ} {at : ℕ} → Refused text at → List Tok
upto r = r.before.tokens ++ r.token ∷ []

-- with more delimiters open at once the tokens would begin a tree
abbrev pub BeginsDeeper : List Tok → Type 0
BeginsDeeper ts = (n : ℕ) × Begins n ts

-- the first fault of a text that is short enough and UTF-8
abbrev pub TokenFault : List ℕ → TextFault → Type 0
TokenFault text (BadByte at) = (b : Begun text) × Unreadable b.place b.rest (BadByte at)
TokenFault text (TextOpen at) = (b : Begun text) × Unreadable b.place b.rest (TextOpen at)
TokenFault text (BadNumber at) = (b : Begun text) × Unreadable b.place b.rest (BadNumber at)
TokenFault text (NumberRange at) = (b : Begun text) × Unreadable b.place b.rest (NumberRange at)
TokenFault text (After at) = (r : Refused text at) × IsTree 16 r.before.tokens
TokenFault text (Depth at) = (r : Refused text at) × (IsTree 16 r.before.tokens → ⊥) × BeginsDeeper (upto r)
TokenFault text (Unexpected at) = (r : Refused text at) × (IsTree 16 r.before.tokens → ⊥) × (BeginsDeeper (upto r) → ⊥)
TokenFault text (EndEarly at) = (at ≡ length text) × (ts : List Tok) × Cut 0 text ts × Begins 16 ts × (IsTree 16 ts → ⊥)
TokenFault text TooLong = ⊥
TokenFault text (NotUtf8 at) = ⊥

-- the tiers: length, UTF-8, tokens
abbrev pub FirstFault : List ℕ → TextFault → Type 0
FirstFault text TooLong = 1048576 < length text
FirstFault text (NotUtf8 at) = (length text ≤ 1048576) × (¬ (IsUtf8 text)) × IsValidUpTo text at
FirstFault text (BadByte at) = (length text ≤ 1048576) × IsUtf8 text × TokenFault text (BadByte at)
FirstFault text (TextOpen at) = (length text ≤ 1048576) × IsUtf8 text × TokenFault text (TextOpen at)
FirstFault text (BadNumber at) = (length text ≤ 1048576) × IsUtf8 text × TokenFault text (BadNumber at)
FirstFault text (NumberRange at) = (length text ≤ 1048576) × IsUtf8 text × TokenFault text (NumberRange at)
FirstFault text (Unexpected at) = (length text ≤ 1048576) × IsUtf8 text × TokenFault text (Unexpected at)
FirstFault text (Depth at) = (length text ≤ 1048576) × IsUtf8 text × TokenFault text (Depth at)
FirstFault text (EndEarly at) = (length text ≤ 1048576) × IsUtf8 text × TokenFault text (EndEarly at)
FirstFault text (After at) = (length text ≤ 1048576) × IsUtf8 text × TokenFault text (After at)

-- the text is written with the tokens of a tree
pub record IsOutline (text : List ℕ) (ts : List Tok) : Type 0 where
  pub short : length text ≤ 1048576
  pub utf8 : IsUtf8 text
  pub cut : Cut 0 text ts
  pub tree : IsTree 16 ts
