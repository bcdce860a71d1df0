-- A text has at most one first fault.
use Rattle.std.proofs.Common.{◌≡◌, ℕ, ◌+◌, List, [], ◌∷◌, ◌++◌, length, drop, Some, refl, sym, ap, ◌∙◌, subst, append_assoc, inl, inr}
use Rattle.std.specs.Prelude.{◌⊎◌}
use Rattle.std.specs.List.{AllPass, prefix_len}
use Rattle.std.proofs.lemmas.List.{append-nil, drop_at}
use Rattle.wkt_tree.specs.declared.token.TokenKind.TheVariants.{Quoted, Number}
use Rattle.wkt_tree.specs.declared.fault.TextFault.{TextFault}
use Rattle.wkt_tree.specs.declared.fault.TextFault.TheVariants.{TooLong, NotUtf8, BadByte, TextOpen, BadNumber, NumberRange, Unexpected, Depth, EndEarly, After}
use Rattle.crs_number.specs.Numeral.{HasForm}
use Rattle.wkt_tree.specs.Bytes.{is_blank, begun_by}
use Rattle.wkt_tree.specs.Tree.{Tok, IsTree, Begins}
use Rattle.wkt_tree.specs.Tokens.{Blanks, Lexeme, First, Front, end_of}
use Rattle.wkt_tree.specs.Faults.{NoToken, OpenText, NoNumeral, NoDecimal, After_blanks, Unreadable, Begun, Refused, BeginsDeeper, TokenFault}
use Rattle.wkt_tree.proofs.Cuts.{prefix_is, prefix_all, first_is}
use Rattle.wkt_tree.proofs.Unread.{Unblank, unblank_stops, from_is, lexeme_unblank, unblank_no, unblank_open, same_token, Clash, no_token, open_text, no_numeral, no_decimal}

-- ---- a token that cannot be read has one fault

at_is : (place at : ℕ) (bytes from : List ℕ) → Blanks place bytes at from → Unblank from → place + prefix_len is_blank bytes ≡ at
at_is place at bytes from b u =
    ap (λ k. place + k) (ap (prefix_len is_blank) b.whole ∙ prefix_is is_blank b.blanks from b.all (unblank_stops from u)) ∙ sym b.moved

-- `Is` and `Js` hold of the bytes after the blanks, which begin at one place
record Meeting (Is Js : List ℕ → Type 0) (at by : ℕ) : Type 0 where
  same : at ≡ by
  from : List ℕ
  one : Is from
  other : Js from

meet : (Is Js : List ℕ → Type 0) → ((bytes : List ℕ) → Is bytes → Unblank bytes) → ((bytes : List ℕ) → Js bytes → Unblank bytes) → (place at by : ℕ) (bytes : List ℕ) → After_blanks place bytes Is at → After_blanks place bytes Js by → Meeting Is Js at by
meet Is Js un vn place at by bytes a b =
    let u = un a.from a.is in
    let v = vn b.from b.is in
    record {
      same = sym (at_is place at bytes a.from a.blank u) ∙ at_is place by bytes b.from b.blank v;
      from = a.from;
      one = a.is;
      other = subst (λ l. Js l) (sym (from_is place by bytes b.from b.blank v) ∙ from_is place at bytes a.from a.blank u) b.is;
    }

numeral_unblank : (bytes : List ℕ) → NoNumeral bytes → Unblank bytes
numeral_unblank bytes i = lexeme_unblank Number bytes i.token i.rest i.lexeme

decimal_unblank : (bytes : List ℕ) → NoDecimal bytes → Unblank bytes
decimal_unblank bytes i = lexeme_unblank Number bytes i.token i.rest i.lexeme

token_or_text : (bytes : List ℕ) → NoToken bytes → OpenText bytes → ⊥
token_or_text [] i j = i
token_or_text (b ∷ bs) i j = let e = sym i.1 ∙ j.0 in cc

begun_number : (bytes token rest : List ℕ) → Lexeme Number bytes token rest → (b : ℕ) × (bs : List ℕ) × (bytes ≡ b ∷ bs) × (begun_by b ≡ Some Number)
begun_number bytes token rest l = (l.first, l.others ++ rest, l.whole ∙ ap (λ (x : List ℕ). x ++ rest) l.parts, l.begun)

token_or_number : (bytes token rest : List ℕ) → NoToken bytes → Lexeme Number bytes token rest → ⊥
token_or_number bytes token rest i l =
    let b = begun_number bytes token rest l in
    let n = subst (λ x. NoToken x) b.2 i in
    let e = sym n.1 ∙ b.3 in
    cc

text_or_number : (bytes token rest : List ℕ) → OpenText bytes → Lexeme Number bytes token rest → ⊥
text_or_number bytes token rest i l =
    let b = begun_number bytes token rest l in
    let n = subst (λ x. OpenText x) b.2 i in
    let e = sym n.0 ∙ b.3 in
    let k : Quoted ≡ Number = cc in
    cc

form_or_none : (bytes : List ℕ) → NoNumeral bytes → NoDecimal bytes → ⊥
form_or_none bytes i j =
    let s = same_token Number Number bytes i.token i.rest j.token j.rest i.lexeme j.lexeme in
    i.formless (subst (λ (x : List ℕ). HasForm x) (sym s.1) j.formed)

module _ (place at by : ℕ) (bytes : List ℕ) where
  abbrev At : (List ℕ → Type 0) → ℕ → Type 0
  At Is k = After_blanks place bytes Is k

  byte_text : At NoToken at → At OpenText by → ⊥
  byte_text u v = let m = meet NoToken OpenText unblank_no unblank_open place at by bytes u v in token_or_text m.from m.one m.other

  byte_numeral : At NoToken at → At NoNumeral by → ⊥
  byte_numeral u v = let m = meet NoToken NoNumeral unblank_no numeral_unblank place at by bytes u v in token_or_number m.from m.other.token m.other.rest m.one m.other.lexeme

  byte_decimal : At NoToken at → At NoDecimal by → ⊥
  byte_decimal u v = let m = meet NoToken NoDecimal unblank_no decimal_unblank place at by bytes u v in token_or_number m.from m.other.token m.other.rest m.one m.other.lexeme

  text_numeral : At OpenText at → At NoNumeral by → ⊥
  text_numeral u v = let m = meet OpenText NoNumeral unblank_open numeral_unblank place at by bytes u v in text_or_number m.from m.other.token m.other.rest m.one m.other.lexeme

  text_decimal : At OpenText at → At NoDecimal by → ⊥
  text_decimal u v = let m = meet OpenText NoDecimal unblank_open decimal_unblank place at by bytes u v in text_or_number m.from m.other.token m.other.rest m.one m.other.lexeme

  numeral_decimal : At NoNumeral at → At NoDecimal by → ⊥
  numeral_decimal u v = let m = meet NoNumeral NoDecimal numeral_unblank decimal_unblank place at by bytes u v in form_or_none m.from m.one m.other

same_unread : (place : ℕ) (bytes : List ℕ) (e f : TextFault) → Unreadable place bytes e → Unreadable place bytes f → e ≡ f
same_unread place bytes TooLong f u v = absurd u
same_unread place bytes (NotUtf8 at) f u v = absurd u
same_unread place bytes (Unexpected at) f u v = absurd u
same_unread place bytes (Depth at) f u v = absurd u
same_unread place bytes (EndEarly at) f u v = absurd u
same_unread place bytes (After at) f u v = absurd u
same_unread place bytes (BadByte at) TooLong u v = absurd v
same_unread place bytes (BadByte at) (NotUtf8 by) u v = absurd v
same_unread place bytes (BadByte at) (BadByte by) u v = ap (λ k. BadByte k) (meet NoToken NoToken unblank_no unblank_no place at by bytes u v).same
same_unread place bytes (BadByte at) (TextOpen by) u v = absurd (byte_text place at by bytes u v)
same_unread place bytes (BadByte at) (BadNumber by) u v = absurd (byte_numeral place at by bytes u v)
same_unread place bytes (BadByte at) (NumberRange by) u v = absurd (byte_decimal place at by bytes u v)
same_unread place bytes (BadByte at) (Unexpected by) u v = absurd v
same_unread place bytes (BadByte at) (Depth by) u v = absurd v
same_unread place bytes (BadByte at) (EndEarly by) u v = absurd v
same_unread place bytes (BadByte at) (After by) u v = absurd v
same_unread place bytes (TextOpen at) TooLong u v = absurd v
same_unread place bytes (TextOpen at) (NotUtf8 by) u v = absurd v
same_unread place bytes (TextOpen at) (BadByte by) u v = absurd (byte_text place by at bytes v u)
same_unread place bytes (TextOpen at) (TextOpen by) u v = ap (λ k. TextOpen k) (meet OpenText OpenText unblank_open unblank_open place at by bytes u v).same
same_unread place bytes (TextOpen at) (BadNumber by) u v = absurd (text_numeral place at by bytes u v)
same_unread place bytes (TextOpen at) (NumberRange by) u v = absurd (text_decimal place at by bytes u v)
same_unread place bytes (TextOpen at) (Unexpected by) u v = absurd v
same_unread place bytes (TextOpen at) (Depth by) u v = absurd v
same_unread place bytes (TextOpen at) (EndEarly by) u v = absurd v
same_unread place bytes (TextOpen at) (After by) u v = absurd v
same_unread place bytes (BadNumber at) TooLong u v = absurd v
same_unread place bytes (BadNumber at) (NotUtf8 by) u v = absurd v
same_unread place bytes (BadNumber at) (BadByte by) u v = absurd (byte_numeral place by at bytes v u)
same_unread place bytes (BadNumber at) (TextOpen by) u v = absurd (text_numeral place by at bytes v u)
same_unread place bytes (BadNumber at) (BadNumber by) u v = ap (λ k. BadNumber k) (meet NoNumeral NoNumeral numeral_unblank numeral_unblank place at by bytes u v).same
same_unread place bytes (BadNumber at) (NumberRange by) u v = absurd (numeral_decimal place at by bytes u v)
same_unread place bytes (BadNumber at) (Unexpected by) u v = absurd v
same_unread place bytes (BadNumber at) (Depth by) u v = absurd v
same_unread place bytes (BadNumber at) (EndEarly by) u v = absurd v
same_unread place bytes (BadNumber at) (After by) u v = absurd v
same_unread place bytes (NumberRange at) TooLong u v = absurd v
same_unread place bytes (NumberRange at) (NotUtf8 by) u v = absurd v
same_unread place bytes (NumberRange at) (BadByte by) u v = absurd (byte_decimal place by at bytes v u)
same_unread place bytes (NumberRange at) (TextOpen by) u v = absurd (text_decimal place by at bytes v u)
same_unread place bytes (NumberRange at) (BadNumber by) u v = absurd (numeral_decimal place by at bytes v u)
same_unread place bytes (NumberRange at) (NumberRange by) u v = ap (λ k. NumberRange k) (meet NoDecimal NoDecimal decimal_unblank decimal_unblank place at by bytes u v).same
same_unread place bytes (NumberRange at) (Unexpected by) u v = absurd v
same_unread place bytes (NumberRange at) (Depth by) u v = absurd v
same_unread place bytes (NumberRange at) (EndEarly by) u v = absurd v
same_unread place bytes (NumberRange at) (After by) u v = absurd v

-- ---- the rest of a text is blank, begins with a token that can be read, or with one that cannot

clash_first : (Is : List ℕ → Type 0) → Clash Is → ((bytes : List ℕ) → Is bytes → Unblank bytes) → (place at : ℕ) (bytes : List ℕ) (t : Tok) (rest : List ℕ) → After_blanks place bytes Is at → First place bytes t rest → ⊥
clash_first Is clash un place at bytes t rest a f =
    let one = from_is place at bytes a.from a.blank (un a.from a.is) in
    let two = from_is place t.piece.place bytes f.from f.blank (lexeme_unblank t.kind f.from t.piece.bytes rest f.lexeme) in
    clash t.kind f.from t.piece.bytes rest (subst (λ l. Is l) (sym one ∙ two) a.is) f.lexeme f.readable

clash_blank : (Is : List ℕ → Type 0) → ((bytes : List ℕ) → Is bytes → Unblank bytes) → (place at : ℕ) (bytes : List ℕ) → After_blanks place bytes Is at → AllPass is_blank bytes → ⊥
clash_blank Is un place at bytes a all =
    let u = un a.from a.is in
    let gone : drop (prefix_len is_blank bytes) bytes ≡ [] = ap (λ k. drop k bytes) (prefix_all is_blank bytes all) ∙ (ap (drop (length bytes)) (sym (append-nil bytes)) ∙ drop_at bytes [] (length bytes) refl) in
    subst (λ l. Unblank l) (sym (from_is place at bytes a.from a.blank u) ∙ gone) u

first_blank : (place : ℕ) (bytes : List ℕ) (t : Tok) (rest : List ℕ) → First place bytes t rest → AllPass is_blank bytes → ⊥
first_blank place bytes t rest f all =
    clash_blank Unblank (λ l u. u) place t.piece.place bytes (record { from = f.from; blank = f.blank; is = lexeme_unblank t.kind f.from t.piece.bytes rest f.lexeme }) all

module _ (place : ℕ) (bytes : List ℕ) where
  unread_first : (fault : TextFault) (t : Tok) (rest : List ℕ) → Unreadable place bytes fault → First place bytes t rest → ⊥
  unread_first (BadByte at) t rest u f = clash_first NoToken no_token unblank_no place at bytes t rest u f
  unread_first (TextOpen at) t rest u f = clash_first OpenText open_text unblank_open place at bytes t rest u f
  unread_first (BadNumber at) t rest u f = clash_first NoNumeral no_numeral numeral_unblank place at bytes t rest u f
  unread_first (NumberRange at) t rest u f = clash_first NoDecimal no_decimal decimal_unblank place at bytes t rest u f
  unread_first TooLong t rest u f = u
  unread_first (NotUtf8 at) t rest u f = u
  unread_first (Unexpected at) t rest u f = u
  unread_first (Depth at) t rest u f = u
  unread_first (EndEarly at) t rest u f = u
  unread_first (After at) t rest u f = u

  unread_blank : (fault : TextFault) → Unreadable place bytes fault → AllPass is_blank bytes → ⊥
  unread_blank (BadByte at) u a = clash_blank NoToken unblank_no place at bytes u a
  unread_blank (TextOpen at) u a = clash_blank OpenText unblank_open place at bytes u a
  unread_blank (BadNumber at) u a = clash_blank NoNumeral numeral_unblank place at bytes u a
  unread_blank (NumberRange at) u a = clash_blank NoDecimal decimal_unblank place at bytes u a
  unread_blank TooLong u a = u
  unread_blank (NotUtf8 at) u a = u
  unread_blank (Unexpected at) u a = u
  unread_blank (Depth at) u a = u
  unread_blank (EndEarly at) u a = u
  unread_blank (After at) u a = u

-- ---- where a scan stops

-- the fault of a token t that is refused after the tokens us
abbrev Verdict : List Tok → Tok → TextFault → Type 0
Verdict us t fault =
    ((fault ≡ After t.piece.place) × IsTree 16 us)
    ⊎ (((fault ≡ Depth t.piece.place) × (IsTree 16 us → ⊥) × BeginsDeeper (us ++ t ∷ []))
    ⊎ ((fault ≡ Unexpected t.piece.place) × (IsTree 16 us → ⊥) × (BeginsDeeper (us ++ t ∷ []) → ⊥)))

same_verdict : (us : List Tok) (t : Tok) (e f : TextFault) → Verdict us t e → Verdict us t f → e ≡ f
same_verdict us t e f (inl x) (inl y) = x.0 ∙ sym y.0
same_verdict us t e f (inl x) (inr (inl y)) = absurd (y.1 x.1)
same_verdict us t e f (inl x) (inr (inr y)) = absurd (y.1 x.1)
same_verdict us t e f (inr (inl x)) (inl y) = absurd (x.1 y.1)
same_verdict us t e f (inr (inl x)) (inr (inl y)) = x.0 ∙ sym y.0
same_verdict us t e f (inr (inl x)) (inr (inr y)) = absurd (y.2 x.2)
same_verdict us t e f (inr (inr x)) (inl y) = absurd (x.1 y.1)
same_verdict us t e f (inr (inr x)) (inr (inl y)) = absurd (x.2 y.2)
same_verdict us t e f (inr (inr x)) (inr (inr y)) = x.0 ∙ sym y.0

data Next (text : List ℕ) (us : List Tok) (p : ℕ) (b : List ℕ) (fault : TextFault) : Type 0 where
  unread : Unreadable p b fault → Next text us p b fault
  refused : (t : Tok) (rest : List ℕ) → First p b t rest → (Begins 16 (us ++ t ∷ []) → ⊥) → Verdict us t fault → Next text us p b fault
  ended : AllPass is_blank b → fault ≡ EndEarly (length text) → Next text us p b fault

record Stop (text : List ℕ) (fault : TextFault) : Type 0 where
  us : List Tok
  p : ℕ
  b : List ℕ
  front : Front 0 text us p b
  begins : Begins 16 us
  next : Next text us p b fault

at_verdict : (text : List ℕ) (at : ℕ) (fault : TextFault) → (r : Refused text at) → Verdict r.before.tokens r.token fault → Stop text fault
at_verdict text at fault r v =
    record { us = r.before.tokens; p = r.before.place; b = r.before.rest; front = r.before.front; begins = r.before.begins; next = refused r.token r.rest r.read r.refused v }

at_unread : (text : List ℕ) (fault : TextFault) → (g : Begun text) → Unreadable g.place g.rest fault → Stop text fault
at_unread text fault g u = record { us = g.tokens; p = g.place; b = g.rest; front = g.front; begins = g.begins; next = unread u }

stop_of : (text : List ℕ) (fault : TextFault) → TokenFault text fault → Stop text fault
stop_of text (BadByte at) f = at_unread text (BadByte at) f.0 f.1
stop_of text (TextOpen at) f = at_unread text (TextOpen at) f.0 f.1
stop_of text (BadNumber at) f = at_unread text (BadNumber at) f.0 f.1
stop_of text (NumberRange at) f = at_unread text (NumberRange at) f.0 f.1
stop_of text (After at) f = at_verdict text at (After at) f.0 (inl (ap (λ k. After k) (sym f.0.here), f.1))
stop_of text (Depth at) f = at_verdict text at (Depth at) f.0 (inr (inl (ap (λ k. Depth k) (sym f.0.here), f.1, f.2)))
stop_of text (Unexpected at) f = at_verdict text at (Unexpected at) f.0 (inr (inr (ap (λ k. Unexpected k) (sym f.0.here), f.1, f.2)))
stop_of text (EndEarly at) f =
    record { us = f.1; p = f.2.place'; b = f.2.rest; front = f.2.front; begins = f.3; next = ended f.2.blank (ap (λ k. EndEarly k) f.0) }
stop_of text TooLong f = absurd f
stop_of text (NotUtf8 at) f = absurd f

-- ---- two lists of tokens that a text begins with

same_first : (p : ℕ) (b : List ℕ) (t u : Tok) (r s : List ℕ) → First p b t r → First p b u s → (t ≡ u) × (r ≡ s)
same_first p b t u r s f g =
    let x = first_is p b t r f in
    let y = first_is p b u s g in
    let e = sym x.0 ∙ y.0 in
    let same : t ≡ u = cc in
    (same, sym x.1 ∙ (ap (λ (z : Tok). drop (length z.piece.bytes) (drop (prefix_len is_blank b) b)) same ∙ y.1))

-- the tokens vs are the tokens us, the next token t, and others
record Ahead (us : List Tok) (p : ℕ) (b : List ℕ) (vs : List Tok) : Type 0 where
  t : Tok
  rest : List ℕ
  others : List Tok
  first : First p b t rest
  is : vs ≡ (us ++ t ∷ []) ++ others

record Level_with (us : List Tok) (p : ℕ) (b : List ℕ) (vs : List Tok) (q : ℕ) (c : List ℕ) : Type 0 where
  tokens : us ≡ vs
  place : p ≡ q
  bytes : b ≡ c

compare_fronts : (us vs : List Tok) (k : ℕ) (a : List ℕ) (p : ℕ) (b : List ℕ) (q : ℕ) (c : List ℕ) → Front k a us p b → Front k a vs q c → Level_with us p b vs q c ⊎ (Ahead us p b vs ⊎ Ahead vs q c us)
compare_fronts [] [] k a p b q c f g = inl (record { tokens = refl; place = sym f.0 ∙ g.0; bytes = sym f.1 ∙ g.1 })
compare_fronts [] (v ∷ vs) k a p b q c f g =
    inr (inl (record { t = v; rest = g.0; others = vs; first = subst (λ x. First x b v g.0) f.0 (subst (λ x. First k x v g.0) f.1 g.1); is = refl }))
compare_fronts (u ∷ us) [] k a p b q c f g =
    inr (inr (record { t = u; rest = f.0; others = us; first = subst (λ x. First x c u f.0) g.0 (subst (λ x. First k x u f.0) g.1 f.1); is = refl }))
compare_fronts (u ∷ us) (v ∷ vs) k a p b q c f g =
    let s = same_first k a u v f.0 g.0 f.1 g.1 in
    let g' : Front (end_of u) f.0 vs q c = subst (λ x. Front (end_of u) x vs q c) (sym s.1) (subst (λ (x : Tok). Front (end_of x) g.0 vs q c) (sym s.0) g.2) in
    elim (compare_fronts us vs (end_of u) f.0 p b q c f.2 g') [
      | inl l ↦ inl (record { tokens = ap (λ (x : List Tok). u ∷ x) l.tokens ∙ ap (λ (x : Tok). x ∷ vs) s.0; place = l.place; bytes = l.bytes })
      | inr (inl h) ↦ inr (inl (record { t = h.t; rest = h.rest; others = h.others; first = h.first; is = ap (λ (x : Tok). x ∷ vs) (sym s.0) ∙ ap (λ (x : List Tok). u ∷ x) h.is }))
      | inr (inr h) ↦ inr (inr (record { t = h.t; rest = h.rest; others = h.others; first = h.first; is = ap (λ (x : Tok). x ∷ us) s.0 ∙ ap (λ (x : List Tok). v ∷ x) h.is }))
    ]

-- if a scan stops after the tokens us, these and further tokens of the text do not begin a tree
no_ahead : (text : List ℕ) (us : List Tok) (p : ℕ) (b : List ℕ) (fault : TextFault) (vs : List Tok) → Next text us p b fault → Ahead us p b vs → Begins 16 vs → ⊥
no_ahead text us p b fault vs (unread u) h g = unread_first p b fault h.t h.rest u h.first
no_ahead text us p b fault vs (refused t rest f bad v) h g =
    let s = same_first p b t h.t rest h.rest f h.first in
    let w : Begins 16 ((us ++ h.t ∷ []) ++ h.others) = subst (λ x. Begins 16 x) h.is g in
    bad (subst (λ (x : Tok). Begins 16 (us ++ x ∷ [])) (sym s.0)
    (record { others = h.others ++ w.others; tree = subst (λ x. IsTree 16 x) (append_assoc (us ++ h.t ∷ []) h.others w.others) w.tree }))
no_ahead text us p b fault vs (ended a e) h g = first_blank p b h.t h.rest h.first a

same_next : (text : List ℕ) (us : List Tok) (p : ℕ) (b : List ℕ) (e f : TextFault) → Next text us p b e → Next text us p b f → e ≡ f
same_next text us p b e f (unread u) (unread v) = same_unread p b e f u v
same_next text us p b e f (unread u) (refused t r g bad v) = absurd (unread_first p b e t r u g)
same_next text us p b e f (unread u) (ended a i) = absurd (unread_blank p b e u a)
same_next text us p b e f (refused t r g bad v) (unread u) = absurd (unread_first p b f t r u g)
same_next text us p b e f (refused t r g bad v) (refused u s h bad' w) =
    let x = same_first p b t u r s g h in same_verdict us u e f (subst (λ (z : Tok). Verdict us z e) x.0 v) w
same_next text us p b e f (refused t r g bad v) (ended a i) = absurd (first_blank p b t r g a)
same_next text us p b e f (ended a i) (unread u) = absurd (unread_blank p b f u a)
same_next text us p b e f (ended a i) (refused t r g bad v) = absurd (first_blank p b t r g a)
same_next text us p b e f (ended a i) (ended a' j) = i ∙ sym j

same_stop : (text : List ℕ) (e f : TextFault) → Stop text e → Stop text f → e ≡ f
same_stop text e f x y =
    elim (compare_fronts x.us y.us 0 text x.p x.b y.p y.b x.front y.front) [
      | inl l ↦ same_next text y.us y.p y.b e f (subst (λ z. Next text z y.p y.b e) l.tokens (subst (λ z. Next text x.us z y.b e) l.place (subst (λ z. Next text x.us x.p z e) l.bytes x.next))) y.next
      | inr (inl h) ↦ absurd (no_ahead text x.us x.p x.b e y.us x.next h y.begins)
      | inr (inr h) ↦ absurd (no_ahead text y.us y.p y.b f x.us y.next h x.begins)
    ]

-- a text has at most one first fault of its tokens
pub one_token_fault : (text : List ℕ) (e f : TextFault) → TokenFault text e → TokenFault text f → e ≡ f
one_token_fault text e f x y = same_stop text e f (stop_of text e x) (stop_of text f y)
