-- The tokens of a text and those of the condensed text.
use Rattle.std.proofs.Common.{◌≡◌, ℕ, ◌+◌, true, List, [], ◌∷◌, ◌++◌, length, take, drop, refl, sym, ap, ◌∙◌, subst, inl, inr, IsUtf8}
use Rattle.std.specs.List.{AllPass}
use Rattle.std.proofs.lemmas.List.Elements.{All-nil, All-cons, All-head, All-tail}
use Rattle.wkt_tree.specs.declared.token.TokenKind.{TokenKind}
use Rattle.wkt_tree.specs.declared.token.TokenKind.TheVariants.{Word, Quoted, Number, Comma, Open, Close}
use Rattle.wkt_tree.specs.Bytes.{is_blank, is_number_byte}
use Rattle.wkt_tree.specs.Tree.{Tok, tok}
use Rattle.wkt_tree.specs.Tokens.{Stops, Lexeme, First, Cut, end_of, IsReadable}
use Rattle.wkt_tree.proofs.Cuts.{begins_unblank, lexeme_is, found, Found}
use Rattle.std.specs.Prelude.{◌⊎◌}
use Rattle.std.proofs.lemmas.List.{take_at, drop_at}
use Rattle.crs_number.specs.Bytes.{HasNumeralBytes}
use Rattle.crs_number.proofs.Forms.{form_bytes}
use Rattle.wkt_write.specs.Alike.{SameNumber}
use Rattle.wkt_tree.proofs.Sound.{begins_as_number}
use Rattle.wkt_write.specs.Condensed.{Before, other, next, Condenses, done, keep, leave, respell}
use Rattle.wkt_write.proofs.Following.{Free, Skipped, Renewed, numeral_unblank, skip, shut_number, shut_after, follow}
use Rattle.wkt_write.proofs.TokenUtf8.{token_parts, blanks_past, blanks_utf8, numbers_utf8, utf8_all}

-- the bytes of two tokens of one kind are the same, or spell one number
abbrev pub SameBytes : TokenKind → List ℕ → List ℕ → Type 0
SameBytes Number a b = SameNumber b a
SameBytes Word a b = a ≡ b
SameBytes Quoted a b = a ≡ b
SameBytes Comma a b = a ≡ b
SameBytes (Open d) a b = a ≡ b
SameBytes (Close d) a b = a ≡ b

-- the tokens are the same, except for their places and the spelling of numerals
abbrev pub SameTokens : List Tok → List Tok → Type 0
SameTokens [] [] = Unit {0}
SameTokens [] (u ∷ us) = ⊥
SameTokens (t ∷ ts) [] = ⊥
SameTokens (t ∷ ts) (u ∷ us) = (t.kind ≡ u.kind) × SameBytes u.kind t.piece.bytes u.piece.bytes × SameTokens ts us

own_bytes : (k : TokenKind) (a : List ℕ) → IsReadable k a → SameBytes k a a
own_bytes Number a r = record { decimal = r.0; one = r.1; another = r.1 }
own_bytes Word a r = refl
own_bytes Quoted a r = refl
own_bytes Comma a r = refl
own_bytes (Open d) a r = refl
own_bytes (Close d) a r = refl

-- ---- one token, and all tokens

-- the text begins with the same token, except for the spelling of a numeral, and the text after it condenses to the rest
pub record FirstAlike (place : ℕ) (text : List ℕ) (t : Tok) (rest : List ℕ) : Type 0 where
  pub token : Tok
  pub kind : token.kind ≡ t.kind
  pub bytes : SameBytes t.kind token.piece.bytes t.piece.bytes
  pub behind : List ℕ
  pub first : First place text token behind
  pub at : Before
  pub free : Free at
  pub condenses : Condenses at behind rest
  pub utf8 : IsUtf8 t.piece.bytes → IsUtf8 token.piece.bytes

-- a numeral is a token if the bytes after it do not lengthen it
lexeme_of_numeral : (n rest : List ℕ) → HasNumeralBytes n → Stops is_number_byte rest → Lexeme Number (n ++ rest) n rest
lexeme_of_numeral [] rest h s = absurd h
lexeme_of_numeral (x ∷ n) rest h s =
    record { first = x; others = n; parts = refl; begun = begins_as_number x h.0; follow = All-tail (λ z. is_number_byte z ≡ true) x n h.1; ends = s; whole = refl }

numeral_utf8 : (n : List ℕ) → HasNumeralBytes n → IsUtf8 n
numeral_utf8 [] h = absurd h
numeral_utf8 (x ∷ n) h = numbers_utf8 (x ∷ n) h.1

kept_alike : (place place' : ℕ) (text bytes : List ℕ) (t : Tok) (rest : List ℕ) (f : First place' bytes t rest) → Skipped text f.lexeme.first (f.lexeme.others ++ rest) → FirstAlike place text t rest
kept_alike place place' text bytes t rest f s =
    let l = f.lexeme in
    let g = follow t.kind l.first s.rest l.others rest l.begun l.follow l.ends s.condenses in
    let from : l.first ∷ s.rest ≡ t.piece.bytes ++ g.behind = ap (λ (x : List ℕ). l.first ∷ x) g.whole ∙ ap (λ (x : List ℕ). x ++ g.behind) (sym l.parts) in
    record {
      token = tok t.kind (record { place = place + length s.blanks; bytes = t.piece.bytes });
      kind = refl;
      bytes = own_bytes t.kind t.piece.bytes f.readable;
      behind = g.behind;
      first = record {
        from = l.first ∷ s.rest;
        blank = record { blanks = s.blanks; all = s.all; whole = s.whole; moved = refl };
        lexeme = record { first = l.first; others = l.others; parts = l.parts; begun = l.begun; follow = l.follow; ends = g.ends; whole = from };
        readable = f.readable;
      };
      at = g.at;
      free = g.free;
      condenses = g.condenses;
      utf8 = λ u. u;
    }

-- two tokens at the front of the same bytes are the same, and so are the bytes after them
pub record OneToken (k j : TokenKind) (a b r s : List ℕ) : Type 0 where
  pub kind : k ≡ j
  pub token : a ≡ b
  pub rest : r ≡ s

abbrev one_pair : TokenKind → ℕ → Found
one_pair k n = (k, n)

one_token : (k j : TokenKind) (bytes a b r s : List ℕ) → Lexeme k bytes a r → Lexeme j bytes b s → OneToken k j a b r s
one_token k j bytes a b r s l m =
    let e = lexeme_is k bytes a r l in
    let g = lexeme_is j bytes b s m in
    let same : found k (length a) ≡ found j (length b) = sym e ∙ g in
    let pair : one_pair k (length a) ≡ one_pair j (length b) = cc in
    let kind : k ≡ j = ap (λ (x : Found). x.0) pair in
    let n : length a ≡ length b = ap (λ (x : Found). x.1) pair in
    record {
      kind = kind;
      token = sym (take_at a r (length a) refl) ∙ (ap (take (length a)) (sym l.whole ∙ m.whole) ∙ (ap (λ i. take i (b ++ s)) n ∙ take_at b s (length b) refl));
      rest = sym (drop_at a r (length a) refl) ∙ (ap (drop (length a)) (sym l.whole ∙ m.whole) ∙ (ap (λ i. drop i (b ++ s)) n ∙ drop_at b s (length b) refl));
    }

renewed_alike : (place place' : ℕ) (text bytes : List ℕ) (t : Tok) (rest : List ℕ) (f : First place' bytes t rest) → Renewed text (f.lexeme.first ∷ (f.lexeme.others ++ rest)) → FirstAlike place text t rest
renewed_alike place place' text bytes t rest f s =
    let l = f.lexeme in
    let begin : f.from ≡ l.first ∷ (l.others ++ rest) = l.whole ∙ ap (λ (x : List ℕ). x ++ rest) l.parts in
    let again = form_bytes s.again (s.same.one.parts, s.same.one.form) in
    let numeral = form_bytes s.numeral (s.same.another.parts, s.same.another.form) in
    let m : Lexeme Number f.from s.again s.others = subst (λ (x : List ℕ). Lexeme Number x s.again s.others) (sym (begin ∙ s.is)) (lexeme_of_numeral s.again s.others again (shut_after s.rest s.others s.shuts s.condenses)) in
    let o = one_token t.kind Number f.from t.piece.bytes s.again rest s.others l m in
    record {
      token = tok Number (record { place = place + length s.blanks; bytes = s.numeral });
      kind = sym o.kind;
      bytes = subst (λ k. SameBytes k s.numeral t.piece.bytes) (sym o.kind) (subst (λ (x : List ℕ). SameNumber x s.numeral) (sym o.token) s.same);
      behind = s.rest;
      first = record {
        from = s.numeral ++ s.rest;
        blank = record { blanks = s.blanks; all = s.all; whole = s.whole; moved = refl };
        lexeme = lexeme_of_numeral s.numeral s.rest numeral (shut_number s.rest s.shuts);
        readable = (s.same.decimal, s.same.another);
      };
      at = other;
      free = tt;
      condenses = subst (λ (x : List ℕ). Condenses other s.rest x) (sym o.rest) s.condenses;
      utf8 = λ u. numeral_utf8 s.numeral numeral;
    }

either_alike : (place place' : ℕ) (text bytes : List ℕ) (t : Tok) (rest : List ℕ) (f : First place' bytes t rest) → Skipped text f.lexeme.first (f.lexeme.others ++ rest) ⊎ Renewed text (f.lexeme.first ∷ (f.lexeme.others ++ rest)) → FirstAlike place text t rest
either_alike place place' text bytes t rest f (inl s) = kept_alike place place' text bytes t rest f s
either_alike place place' text bytes t rest f (inr s) = renewed_alike place place' text bytes t rest f s

first_alike : (p : Before) (place place' : ℕ) (text bytes : List ℕ) (t : Tok) (rest : List ℕ) → Free p → Condenses p text bytes → First place' bytes t rest → FirstAlike place text t rest
first_alike p place place' text bytes t rest free h f =
    let l = f.lexeme in
    let begin : f.from ≡ l.first ∷ (l.others ++ rest) = l.whole ∙ ap (λ (x : List ℕ). x ++ rest) l.parts in
    let whole : bytes ≡ f.blank.blanks ++ (l.first ∷ (l.others ++ rest)) = f.blank.whole ∙ ap (λ (x : List ℕ). f.blank.blanks ++ x) begin in
    either_alike place place' text bytes t rest f (skip p text bytes f.blank.blanks l.first (l.others ++ rest) free f.blank.all (begins_unblank l.first t.kind l.begun) whole h)

numeral_front : (m ds : List ℕ) → HasNumeralBytes m → AllPass is_blank (m ++ ds) → ⊥
numeral_front [] ds h a = h
numeral_front (x ∷ m) ds h a = let n = numeral_unblank x h.0 in let b = All-head (λ z. is_blank z ≡ true) x (m ++ ds) a in cc

all_blank : (p : Before) (text bytes : List ℕ) → Condenses p text bytes → AllPass is_blank bytes → AllPass is_blank text
all_blank p text bytes done a = All-nil (λ z. is_blank z ≡ true)
all_blank p text bytes (keep {bs = ts} {cs = ds} x h) a =
    All-cons (λ z. is_blank z ≡ true) x ts (All-head (λ z. is_blank z ≡ true) x ds a) (all_blank (next p x) ts ds h (All-tail (λ z. is_blank z ≡ true) x ds a))
all_blank p text bytes (leave {bs = ts} x blank may h) a = All-cons (λ z. is_blank z ≡ true) x ts blank (all_blank p ts bytes h a)
all_blank p text bytes (respell {cs = ds} n m same shuts h) a = absurd (numeral_front m ds (form_bytes m (same.one.parts, same.one.form)) a)

-- the text consists of the same tokens, and it is UTF-8 if the other bytes are
pub record Alike (place : ℕ) (text : List ℕ) (bytes : List ℕ) (ts : List Tok) : Type 0 where
  pub tokens : List Tok
  pub cut : Cut place text tokens
  pub same : SameTokens tokens ts
  pub utf8 : IsUtf8 bytes → IsUtf8 text

-- ---- UTF-8

first_utf8 : (place place' : ℕ) (text bytes : List ℕ) (t : Tok) (rest : List ℕ) → First place' bytes t rest → (a : FirstAlike place text t rest) → (IsUtf8 rest → IsUtf8 a.behind) → IsUtf8 bytes → IsUtf8 text
first_utf8 place place' text bytes t rest f a more u =
    let l = f.lexeme in
    let v = blanks_past f.blank.blanks f.from f.blank.all (subst IsUtf8 f.blank.whole u) in
    let w : IsUtf8 (l.first ∷ (l.others ++ rest)) = subst IsUtf8 (l.whole ∙ ap (λ (x : List ℕ). x ++ rest) l.parts) v in
    let parts = token_parts t.kind l.first l.others rest l.begun l.follow w in
    let token : IsUtf8 a.token.piece.bytes = a.utf8 (subst IsUtf8 (sym l.parts) parts.token) in
    let is : text ≡ a.first.blank.blanks ++ (a.token.piece.bytes ++ a.behind) = a.first.blank.whole ∙ ap (λ (x : List ℕ). a.first.blank.blanks ++ x) a.first.lexeme.whole in
    subst IsUtf8 (sym is) (utf8_all a.first.blank.blanks a.token.piece.bytes a.behind a.first.blank.all token (more parts.after))

pub cut_alike : (ts : List Tok) (p : Before) (place place' : ℕ) (text bytes : List ℕ) → Free p → Condenses p text bytes → Cut place' bytes ts → Alike place text bytes ts
cut_alike [] p place place' text bytes free h c =
    let blank = all_blank p text bytes h (subst (λ (l : List ℕ). AllPass is_blank l) (sym c.front.1) c.blank) in
    record { tokens = []; cut = record { place' = place; rest = text; front = (refl, refl); blank = blank }; same = tt; utf8 = λ u. blanks_utf8 text blank }
cut_alike (t ∷ ts) p place place' text bytes free h c =
    let f = c.front.1 in
    let a = first_alike p place place' text bytes t c.front.0 free h f in
    let i = cut_alike ts a.at (end_of a.token) (end_of t) a.behind c.front.0 a.free a.condenses (record { place' = c.place'; rest = c.rest; front = c.front.2; blank = c.blank }) in
    record {
      tokens = a.token ∷ i.tokens;
      cut = record { place' = i.cut.place'; rest = i.cut.rest; front = (a.behind, a.first, i.cut.front); blank = i.cut.blank };
      same = (a.kind, a.bytes, i.same);
      utf8 = first_utf8 place place' text bytes t c.front.0 f a i.utf8;
    }
