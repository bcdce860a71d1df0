-- The tokens of some bytes.
use Rattle.std.specs.Prelude.{◌≡◌, ℕ, ◌+◌, Bool, true, false, List, [], ◌∷◌, ◌++◌, length, Some, IsUtf8, ◌==◌, if◌then◌else◌}
use Rattle.std.specs.List.{AllPass, flat_map}
use Rattle.std.specs.Char.{is_ascii_alphabetic}
use Rattle.crs_number.specs.declared.decimals.Decimal.{Decimal}
use Rattle.crs_number.specs.Numeral.{Spells}
use Rattle.wkt_tree.specs.declared.token.Delimiter.{Delimiter}
use Rattle.wkt_tree.specs.declared.token.Delimiter.TheVariants.{Square, Round}
use Rattle.wkt_tree.specs.declared.token.TokenKind.{TokenKind}
use Rattle.wkt_tree.specs.declared.token.TokenKind.TheVariants.{Word, Quoted, Number, Comma, Open, Close}
use Rattle.wkt_tree.specs.Bytes.{is_blank, is_word_byte, is_number_byte, begun_by}
use Rattle.wkt_tree.specs.Tree.{Tok}

-- how a byte of a text is written between the marks: a mark is doubled
abbrev pub doubled : ℕ → List ℕ
doubled b = if b == 34 then 34 ∷ 34 ∷ [] else b ∷ []

-- a text between its marks
abbrev pub quoted : List ℕ → List ℕ
quoted content = 34 ∷ (flat_map doubled content ++ 34 ∷ [])

-- the bytes of a token after its first
abbrev pub Follow : TokenKind → List ℕ → Type 0
Follow Word bs = AllPass is_word_byte bs
Follow Number bs = AllPass is_number_byte bs
Follow Quoted bs = (content : List ℕ) × (bs ≡ flat_map doubled content ++ 34 ∷ [])
Follow Comma bs = bs ≡ []
Follow (Open d) bs = bs ≡ []
Follow (Close d) bs = bs ≡ []

-- the first byte, if there is one, fails the test
abbrev pub Stops : (ℕ → Bool) → List ℕ → Type 0
Stops p [] = Unit {0}
Stops p (b ∷ bs) = p b ≡ false

-- the mark at the ends of a quoted text
abbrev pub is_mark : ℕ → Bool
is_mark b = b == 34

-- the bytes after a token do not lengthen it
abbrev pub Ends : TokenKind → List ℕ → Type 0
Ends Word bs = Stops is_word_byte bs
Ends Number bs = Stops is_number_byte bs
Ends Quoted bs = Stops is_mark bs
Ends Comma bs = Unit {0}
Ends (Open d) bs = Unit {0}
Ends (Close d) bs = Unit {0}

-- after an opening mark: no mark closes the text
abbrev pub IsUnclosed : List ℕ → Type 0
IsUnclosed bs = (content rest : List ℕ) → bs ≡ flat_map doubled content ++ (34 ∷ rest) → Stops is_mark rest → ⊥

-- the longest token of this kind at the front of the bytes, and what follows it
pub record Lexeme (kind : TokenKind) (bytes token rest : List ℕ) : Type 0 where
  pub first : ℕ
  pub others : List ℕ
  pub parts : token ≡ first ∷ others
  pub begun : begun_by first ≡ Some kind
  pub follow : Follow kind others
  pub ends : Ends kind rest
  pub whole : bytes ≡ token ++ rest

-- the bytes spell some decimal
abbrev pub IsNumber : List ℕ → Type 0
IsNumber bs = (d : Decimal) × Spells bs d.coefficient d.exponent

-- a number token has to spell a decimal
abbrev pub IsReadable : TokenKind → List ℕ → Type 0
IsReadable Number bs = IsNumber bs
IsReadable Word bs = Unit {0}
IsReadable Quoted bs = Unit {0}
IsReadable Comma bs = Unit {0}
IsReadable (Open d) bs = Unit {0}
IsReadable (Close d) bs = Unit {0}

-- a letter, and letters, digits and `_`
abbrev pub IsWord : List ℕ → Type 0
IsWord [] = ⊥
IsWord (b ∷ bs) = (is_ascii_alphabetic b ≡ true) × AllPass is_word_byte bs

-- a text of UTF-8 between its marks
abbrev pub IsQuoted : List ℕ → Type 0
IsQuoted bs = (content : List ℕ) × IsUtf8 content × (bs ≡ quoted content)

-- the byte of an opening delimiter
abbrev pub opening : Delimiter → ℕ
opening Square = 91
opening Round = 40

-- the byte of a closing delimiter
abbrev pub closing : Delimiter → ℕ
closing Square = 93
closing Round = 41

-- the bytes of a token of a text, by its kind
abbrev pub IsSound : TokenKind → List ℕ → Type 0
IsSound Word bs = IsWord bs
IsSound Quoted bs = IsQuoted bs
IsSound Number bs = IsNumber bs
IsSound Comma bs = bs ≡ 44 ∷ []
IsSound (Open d) bs = bs ≡ opening d ∷ []
IsSound (Close d) bs = bs ≡ closing d ∷ []

-- from place on, the bytes are blanks, then others at another place, which begin with no blank
pub record Blanks (place : ℕ) (bytes : List ℕ) (place' : ℕ) (bytes' : List ℕ) : Type 0 where
  pub blanks : List ℕ
  pub all : AllPass is_blank blanks
  pub whole : bytes ≡ blanks ++ bytes'
  pub moved : place' ≡ place + length blanks

-- from place on, the bytes are blanks, the token, and the rest; whether a number can be read is left open
pub record Lexed (place : ℕ) (bytes : List ℕ) (t : Tok) (rest : List ℕ) : Type 0 where
  pub from : List ℕ
  pub blank : Blanks place bytes t.piece.place from
  pub lexeme : Lexeme t.kind from t.piece.bytes rest

-- from place on, the bytes are blanks, the token, which can be read, and the rest
pub record First (place : ℕ) (bytes : List ℕ) (t : Tok) (rest : List ℕ) : Type 0 where
  pub from : List ℕ
  pub blank : Blanks place bytes t.piece.place from
  pub lexeme : Lexeme t.kind from t.piece.bytes rest
  pub readable : IsReadable t.kind t.piece.bytes

-- the place after a token
abbrev pub end_of : Tok → ℕ
end_of t = t.piece.place + length t.piece.bytes

-- from place on, the bytes are these tokens, and then others at another place
abbrev pub Front : ℕ → List ℕ → List Tok → ℕ → List ℕ → Type 0
Front place bytes [] place' bytes' = (place ≡ place') × (bytes ≡ bytes')
Front place bytes (t ∷ ts) place' bytes' = (rest : List ℕ) × First place bytes t rest × Front (end_of t) rest ts place' bytes'

-- from place on, the bytes are these tokens and no others
pub record Cut (place : ℕ) (bytes : List ℕ) (ts : List Tok) : Type 0 where
  pub place' : ℕ
  pub rest : List ℕ
  pub front : Front place bytes ts place' rest
  pub blank : AllPass is_blank rest
