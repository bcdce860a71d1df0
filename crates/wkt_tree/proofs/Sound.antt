-- The tokens of a text are sound.
use Rattle.std.proofs.Common.{◌≡◌, ℕ, true, Some, List, [], ◌∷◌, ◌++◌, sym, ap, ◌∙◌, subst, append_assoc, arith, IsUtf8}
use Rattle.std.specs.Prelude.{All}
use Rattle.std.specs.Char.{is_ascii_alphabetic}
use Rattle.std.proofs.lemmas.List.Elements.{All-nil, All-cons}
use Rattle.std.proofs.lemmas.Bool.Decides.{nat_tests}
use Rattle.wkt_tree.specs.declared.token.Delimiter.{Delimiter}
use Rattle.wkt_tree.specs.declared.token.Delimiter.TheVariants.{Square, Round}
use Rattle.wkt_tree.specs.declared.token.TokenKind.{TokenKind}
use Rattle.wkt_tree.specs.declared.token.TokenKind.TheVariants.{Word, Quoted, Number, Comma, Open, Close}
use Rattle.wkt_tree.specs.Bytes.{is_blank, is_word_byte, is_number_byte, begins_number, begun_by}
use Rattle.wkt_tree.specs.Tree.{Tok}
use Rattle.wkt_tree.specs.Tokens.{Follow, IsReadable, IsSound, IsWord, opening, closing, First, Front, Cut, end_of}
use Rattle.wkt_tree.specs.Cursor.{IsSoundToken}
use Rattle.wkt_tree.proofs.Lexemes.{body}
use Rattle.wkt_tree.proofs.Utf8.{utf8_before, utf8_behind, utf8_past, utf8_content, blank_small, word_small, number_small, begun_small}

-- ---- the byte that begins a token

pub word_begins : (b : ℕ) → begun_by b ≡ Some Word → is_ascii_alphabetic b ≡ true
unfolding begun_by
word_begins b h = grind (arith, nat_tests)

pub number_begins : (b : ℕ) → begun_by b ≡ Some Number → begins_number b ≡ true
unfolding begun_by
number_begins b h = grind (arith, nat_tests)

pub begins_as_number : (b : ℕ) → begins_number b ≡ true → begun_by b ≡ Some Number
unfolding begun_by
begins_as_number b h = grind (arith, nat_tests)

pub quoted_begins : (b : ℕ) → begun_by b ≡ Some Quoted → b ≡ 34
unfolding begun_by
quoted_begins b h = grind (arith, nat_tests)

pub comma_begins : (b : ℕ) → begun_by b ≡ Some Comma → b ≡ 44
unfolding begun_by
comma_begins b h = grind (arith, nat_tests)

pub open_begins : (d : Delimiter) (b : ℕ) → begun_by b ≡ Some (Open d) → b ≡ opening d
unfolding begun_by
open_begins Square b h = grind (arith, nat_tests)
open_begins Round b h = grind (arith, nat_tests)

pub close_begins : (d : Delimiter) (b : ℕ) → begun_by b ≡ Some (Close d) → b ≡ closing d
unfolding begun_by
close_begins Square b h = grind (arith, nat_tests)
close_begins Round b h = grind (arith, nat_tests)

-- ---- one token

-- the token is sound, and the bytes after it are UTF-8
abbrev Passes : TokenKind → List ℕ → List ℕ → Type 0
Passes k token rest = IsSound k token × IsUtf8 rest

one_byte : (first : ℕ) (others token rest : List ℕ) (b : ℕ) → token ≡ first ∷ others → others ≡ [] → first ≡ b → token ≡ b ∷ []
one_byte first others token rest b e f g = e ∙ (ap (λ (l : List ℕ). first ∷ l) f ∙ ap (λ x. x ∷ []) g)

passes : (k : TokenKind) (first : ℕ) (others token rest : List ℕ) → token ≡ first ∷ others → begun_by first ≡ Some k → Follow k others → IsReadable k token → IsUtf8 (others ++ rest) → Passes k token rest
passes Word first others token rest e g f r u =
    (subst (λ l. IsWord l) (sym e) (word_begins first g, f), utf8_past is_word_byte word_small others rest f u)
passes Number first others token rest e g f r u = (r, utf8_past is_number_byte number_small others rest f u)
passes Quoted first others token rest e g f r u =
    let v : IsUtf8 (body f.0 ++ 34 ∷ rest) = subst IsUtf8 (ap (λ (l : List ℕ). l ++ rest) f.1 ∙ append_assoc (body f.0) (34 ∷ []) rest) u in
    let w = utf8_before (body f.0) 34 rest (omega arith) v in (
      (f.0, utf8_content f.0 w.0, e ∙ (ap (λ (l : List ℕ). first ∷ l) f.1 ∙ ap (λ x. x ∷ (body f.0 ++ 34 ∷ [])) (quoted_begins first g))),
      utf8_behind 34 rest (omega arith) w.1,
    )
passes Comma first others token rest e g f r u = (one_byte first others token rest 44 e f (comma_begins first g), subst (λ (l : List ℕ). IsUtf8 (l ++ rest)) f u)
passes (Open d) first others token rest e g f r u = (one_byte first others token rest (opening d) e f (open_begins d first g), subst (λ (l : List ℕ). IsUtf8 (l ++ rest)) f u)
passes (Close d) first others token rest e g f r u = (one_byte first others token rest (closing d) e f (close_begins d first g), subst (λ (l : List ℕ). IsUtf8 (l ++ rest)) f u)

first_sound : (place : ℕ) (bytes : List ℕ) (t : Tok) (rest : List ℕ) → First place bytes t rest → IsUtf8 bytes → Passes t.kind t.piece.bytes rest
first_sound place bytes t rest f u =
    let l = f.lexeme in
    let v = utf8_past is_blank blank_small f.blank.blanks f.from f.blank.all (subst IsUtf8 f.blank.whole u) in
    let w : IsUtf8 (l.first ∷ (l.others ++ rest)) = subst IsUtf8 (l.whole ∙ ap (λ (x : List ℕ). x ++ rest) l.parts) v in
    passes t.kind l.first l.others t.piece.bytes rest l.parts l.begun l.follow f.readable (utf8_behind l.first (l.others ++ rest) (begun_small l.first t.kind l.begun) w)

-- ---- all tokens

pub front_sound : (ts : List Tok) (place : ℕ) (bytes : List ℕ) (place' : ℕ) (bytes' : List ℕ) → Front place bytes ts place' bytes' → IsUtf8 bytes → All IsSoundToken ts
front_sound [] place bytes place' bytes' f u = All-nil IsSoundToken
front_sound (t ∷ ts) place bytes place' bytes' f u =
    let s = first_sound place bytes t f.0 f.1 u in
    All-cons IsSoundToken t ts s.0 (front_sound ts (end_of t) f.0 place' bytes' f.2 s.1)

-- each token of a UTF-8 text is sound
pub cut_sound : (place : ℕ) (bytes : List ℕ) (ts : List Tok) → Cut place bytes ts → IsUtf8 bytes → All IsSoundToken ts
cut_sound place bytes ts c u = front_sound ts place bytes c.place' c.rest c.front u
