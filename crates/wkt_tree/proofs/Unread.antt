-- Bytes that cannot be read do not begin with a token.
use Rattle.std.proofs.Common.{◌≡◌, ℕ, false, List, [], ◌∷◌, ◌++◌, length, take, drop, refl, sym, ap, ◌∙◌, subst, append_assoc}
use Rattle.std.specs.List.{AllPass, prefix_len}
use Rattle.std.proofs.lemmas.List.{append-nil, take_at, drop_at}
use Rattle.wkt_tree.specs.declared.token.TokenKind.{TokenKind}
use Rattle.wkt_tree.specs.declared.token.TokenKind.TheVariants.{Quoted, Number}
use Rattle.wkt_tree.specs.declared.fault.TextFault.{TextFault}
use Rattle.wkt_tree.specs.declared.fault.TextFault.TheVariants.{TooLong, NotUtf8, BadByte, TextOpen, BadNumber, NumberRange, Unexpected, Depth, EndEarly, After}
use Rattle.wkt_tree.specs.Bytes.{is_blank, begun_by}
use Rattle.wkt_tree.specs.Tree.{Tok}
use Rattle.wkt_tree.specs.Tokens.{Stops, Follow, Ends, Lexeme, IsReadable, Blanks, Lexed, First, Cut, end_of}
use Rattle.wkt_tree.specs.Faults.{NoToken, OpenText, NoNumeral, NoDecimal, After_blanks, Unreadable, IsOutline}
use Rattle.wkt_tree.specs.Cut.{cut}
use Rattle.wkt_tree.proofs.Lexemes.{body}
use Rattle.wkt_tree.proofs.Cuts.{prefix_is, prefix_all, begins_unblank, lexeme_is, found, Found, lexed, lexed_is, first_is, cut_of}

-- the bytes do not begin with a blank
abbrev pub Unblank : List ℕ → Type 0
Unblank [] = ⊥
Unblank (b ∷ bs) = is_blank b ≡ false

pub unblank_stops : (bytes : List ℕ) → Unblank bytes → Stops is_blank bytes
unblank_stops [] h = tt
unblank_stops (b ∷ bs) h = h

pub from_is : (place at : ℕ) (bytes from : List ℕ) → Blanks place bytes at from → Unblank from → drop (prefix_len is_blank bytes) bytes ≡ from
from_is place at bytes from b u =
    let n : prefix_len is_blank bytes ≡ length b.blanks = ap (prefix_len is_blank) b.whole ∙ prefix_is is_blank b.blanks from b.all (unblank_stops from u) in
    ap (λ k. drop k bytes) n ∙ (ap (drop (length b.blanks)) b.whole ∙ drop_at b.blanks from (length b.blanks) refl)

pub lexeme_unblank : (k : TokenKind) (bytes token rest : List ℕ) → Lexeme k bytes token rest → Unblank bytes
lexeme_unblank k bytes token rest l =
    subst (λ x. Unblank x) (sym (l.whole ∙ ap (λ (x : List ℕ). x ++ rest) l.parts)) (begins_unblank l.first k l.begun)

-- bytes begin with at most one longest token
pub same_token : (k j : TokenKind) (bytes token rest token' rest' : List ℕ) → Lexeme k bytes token rest → Lexeme j bytes token' rest' → (k ≡ j) × (token ≡ token')
same_token k j bytes token rest token' rest' l m =
    let e : found k (length token) ≡ found j (length token') = sym (lexeme_is k bytes token rest l) ∙ lexeme_is j bytes token' rest' m in
    let pair : ◌≡◌ {A = Found} (k, length token) (j, length token') = cc in (
      ap (λ (x : Found). x.0) pair,
      sym (take_at token rest (length token) refl) ∙ (ap (take (length token)) (sym l.whole) ∙ (ap (λ (x : Found). take x.1 bytes) pair ∙ (ap (take (length token')) m.whole ∙ take_at token' rest' (length token') refl))),
    )

-- bytes for which `Is` holds do not begin with a token that can be read
abbrev pub Clash : (List ℕ → Type 0) → Type 0
Clash Is = (k : TokenKind) (bytes token rest : List ℕ) → Is bytes → Lexeme k bytes token rest → IsReadable k token → ⊥

pub no_token : Clash NoToken
no_token k [] token rest i l r = i
no_token k (b ∷ bs) token rest i l r =
    let e = l.whole ∙ ap (λ (x : List ℕ). x ++ rest) l.parts in
    let same : b ≡ l.first = cc in
    let g = ap begun_by same ∙ l.begun in
    let n = i.1 in
    cc

pub open_text : Clash OpenText
open_text k [] token rest i l r = i
open_text k (b ∷ bs) token rest i l r =
    let e = l.whole ∙ ap (λ (x : List ℕ). x ++ rest) l.parts in
    let same : b ≡ l.first = cc in
    let others : bs ≡ l.others ++ rest = cc in
    let g = sym (ap begun_by same ∙ l.begun) ∙ i.0 in
    let kind : k ≡ Quoted = cc in
    let f : Follow Quoted l.others = subst (λ x. Follow x l.others) kind l.follow in
    let s : Ends Quoted rest = subst (λ x. Ends x rest) kind l.ends in
    i.1 f.0 rest (others ∙ (ap (λ (x : List ℕ). x ++ rest) f.1 ∙ append_assoc (body f.0) (34 ∷ []) rest)) s

pub no_numeral : Clash NoNumeral
no_numeral k bytes token rest i l r =
    let s = same_token k Number bytes token rest i.token i.rest l i.lexeme in
    let f : IsReadable Number i.token = subst (λ (x : List ℕ). IsReadable Number x) s.1 (subst (λ x. IsReadable x token) s.0 r) in
    i.formless (f.1.parts, f.1.form)

pub no_decimal : Clash NoDecimal
no_decimal k bytes token rest i l r =
    let s = same_token k Number bytes token rest i.token i.rest l i.lexeme in
    i.spells_none (subst (λ (x : List ℕ). IsReadable Number x) s.1 (subst (λ x. IsReadable x token) s.0 r))

pub unblank_no : (bytes : List ℕ) → NoToken bytes → Unblank bytes
unblank_no [] i = i
unblank_no (b ∷ bs) i = i.0

pub unblank_open : (bytes : List ℕ) → OpenText bytes → Unblank bytes
unblank_open [] i = i
unblank_open (b ∷ bs) i = begins_unblank b Quoted i.0

clashes : (Is : List ℕ → Type 0) → Clash Is → ((bytes : List ℕ) → Is bytes → Unblank bytes) → (place at : ℕ) (bytes : List ℕ) (ts : List Tok) → After_blanks place bytes Is at → Cut place bytes ts → ⊥
clashes Is clash un place at bytes [] a c =
    let all : AllPass is_blank bytes = subst (λ l. AllPass is_blank l) (sym c.front.1) c.blank in
    let u = un a.from a.is in
    let gone : drop (prefix_len is_blank bytes) bytes ≡ [] = ap (λ k. drop k bytes) (prefix_all is_blank bytes all) ∙ (ap (drop (length bytes)) (sym (append-nil bytes)) ∙ drop_at bytes [] (length bytes) refl) in
    subst (λ l. Unblank l) (sym (from_is place at bytes a.from a.blank u) ∙ gone) u
clashes Is clash un place at bytes (t ∷ ts) a c =
    let f = c.front.1 in
    let one = from_is place at bytes a.from a.blank (un a.from a.is) in
    let two = from_is place t.piece.place bytes f.from f.blank (lexeme_unblank t.kind f.from t.piece.bytes c.front.0 f.lexeme) in
    clash t.kind f.from t.piece.bytes c.front.0 (subst (λ l. Is l) (sym one ∙ two) a.is) f.lexeme f.readable

pub unreadable_no : (place : ℕ) (bytes : List ℕ) (fault : TextFault) (ts : List Tok) → Unreadable place bytes fault → Cut place bytes ts → ⊥
unreadable_no place bytes (BadByte at) ts u c = clashes NoToken no_token unblank_no place at bytes ts u c
unreadable_no place bytes (TextOpen at) ts u c = clashes OpenText open_text unblank_open place at bytes ts u c
unreadable_no place bytes (BadNumber at) ts u c = clashes NoNumeral no_numeral (λ l i. lexeme_unblank Number l i.token i.rest i.lexeme) place at bytes ts u c
unreadable_no place bytes (NumberRange at) ts u c = clashes NoDecimal no_decimal (λ l i. lexeme_unblank Number l i.token i.rest i.lexeme) place at bytes ts u c
unreadable_no place bytes TooLong ts u c = u
unreadable_no place bytes (NotUtf8 at) ts u c = u
unreadable_no place bytes (Unexpected at) ts u c = u
unreadable_no place bytes (Depth at) ts u c = u
unreadable_no place bytes (EndEarly at) ts u c = u
unreadable_no place bytes (After at) ts u c = u

-- ---- the result of a cursor

abbrev pub Whole : ℕ → List ℕ → Type 0
Whole place bytes = Cut place bytes (cut place bytes)

-- if the first token of the bytes is t, their tokens are t and those of the rest
pub lexed_head : (place : ℕ) (bytes : List ℕ) (t : Tok) (rest : List ℕ) (ts : List Tok) → Lexed place bytes t rest → Cut place bytes ts → (us : List Tok) × (ts ≡ t ∷ us) × Cut (end_of t) rest us
lexed_head place bytes t rest [] f c =
    let all : AllPass is_blank bytes = subst (λ l. AllPass is_blank l) (sym c.front.1) c.blank in
    let gone : drop (prefix_len is_blank bytes) bytes ≡ [] = ap (λ k. drop k bytes) (prefix_all is_blank bytes all) ∙ (ap (drop (length bytes)) (sym (append-nil bytes)) ∙ drop_at bytes [] (length bytes) refl) in
    let u = lexeme_unblank t.kind f.from t.piece.bytes rest f.lexeme in
    absurd (subst (λ l. Unblank l) (sym (from_is place t.piece.place bytes f.from f.blank u) ∙ gone) u)
lexed_head place bytes t rest (v ∷ us) f c =
    let one = lexed_is place bytes t rest f in
    let two = first_is place bytes v c.front.0 c.front.1 in
    let e = sym one.0 ∙ two.0 in
    let same : v ≡ t = cc in
    let rests : c.front.0 ≡ rest = sym two.1 ∙ (ap (λ (x : Tok). drop (length x.piece.bytes) (drop (prefix_len is_blank bytes) bytes)) same ∙ one.1) in (
      us,
      ap (λ (x : Tok). x ∷ us) same,
      subst (λ (l : List ℕ). Cut (end_of t) l us) rests (subst (λ (x : Tok). Cut (end_of x) c.front.0 us) same (record { place' = c.place'; rest = c.rest; front = c.front.2; blank = c.blank })),
    )

pub head_is : (place : ℕ) (bytes : List ℕ) (t : Tok) (rest : List ℕ) (ts : List Tok) → First place bytes t rest → Cut place bytes ts → (us : List Tok) × (ts ≡ t ∷ us) × Cut (end_of t) rest us
head_is place bytes t rest ts f c = lexed_head place bytes t rest ts (lexed f) c

-- bytes that are all blanks have no tokens
pub none_left : (place : ℕ) (bytes : List ℕ) (ts : List Tok) → AllPass is_blank bytes → Cut place bytes ts → ts ≡ []
none_left place bytes [] a c = refl
none_left place bytes (t ∷ ts) a c =
    let f = c.front.1 in
    let gone : drop (prefix_len is_blank bytes) bytes ≡ [] = ap (λ k. drop k bytes) (prefix_all is_blank bytes a) ∙ (ap (drop (length bytes)) (sym (append-nil bytes)) ∙ drop_at bytes [] (length bytes) refl) in
    let u = lexeme_unblank t.kind f.from t.piece.bytes c.front.0 f.lexeme in
    absurd (subst (λ l. Unblank l) (sym (from_is place t.piece.place bytes f.from f.blank u) ∙ gone) u)

pub outline_of : (text : List ℕ) (ts : List Tok) → IsOutline text ts → IsOutline text (cut 0 text)
outline_of text ts o = subst (λ l. IsOutline text l) (sym (cut_of 0 text ts o.cut)) o
