-- Where a token ends.
use Rattle.std.proofs.Common.{◌≡◌, ℕ, ◌+◌, ◌<◌, ◌≤◌, Bool, true, false, cond, eqb, List, [], ◌∷◌, ◌++◌, length, take, drop, get_or, refl, sym, ap, ◌∙◌, subst, append_assoc, arith, inl, inr}
use Rattle.std.specs.Prelude.{◌⊎◌}
use Rattle.std.specs.List.{AllPass, prefix_len, flat_map}
use Rattle.std.proofs.Math.Numerals.{one-add}
use Rattle.std.proofs.lemmas.List.{get_or-take, take_more, take_all, flat_map_more}
use Rattle.std.proofs.lemmas.List.Sums.{prefix_len_passes}
use Rattle.std.proofs.lemmas.List.Folds.{length-prefix_len}
use Rattle.std.proofs.lemmas.List.Elements.{All-from_get_or}
use Rattle.std.proofs.lemmas.List.{take-append-drop, length-take-le, length-append}
use Rattle.std.proofs.lemmas.List.Elements.{All-nil, All-append}
use Rattle.std.specs.Prelude.{Option, Some, None, Result, Ok, Err}
use Rattle.wkt_tree.specs.declared.token.TokenKind.{TokenKind}
use Rattle.wkt_tree.specs.declared.token.TokenKind.TheVariants.{Word, Quoted, Number, Comma, Open, Close}
use Rattle.wkt_tree.specs.declared.token.Token.{Token}
use Rattle.wkt_tree.specs.declared.fault.TextFault.{TextFault}
use Rattle.wkt_tree.specs.declared.fault.TextFault.TheVariants.{TooLong, NotUtf8, BadByte, TextOpen, BadNumber, NumberRange, Unexpected, Depth, EndEarly, After}
use Rattle.wkt_tree.specs.Bytes.{is_blank, begun_by}
use Rattle.wkt_tree.specs.Tree.{Piece, tok}
use Rattle.wkt_tree.specs.Tokens.{doubled, Stops, is_mark, IsUnclosed, Follow, Ends, Lexeme, Blanks, Lexed}
use Rattle.wkt_tree.specs.Faults.{NoToken, OpenText, NoNumeral, NoDecimal, Misread, After_blanks, Unreadable, Lexes}

-- ---- the longest prefix that passes a test

pub front_passes : (p : ℕ → Bool) (xs : List ℕ) → AllPass p (take (prefix_len p xs) xs)
front_passes p xs =
    All-from_get_or (λ x. p x ≡ true) (take (prefix_len p xs) xs) 0
    (λ k h. let lt : k < prefix_len p xs = omega (arith, length-prefix_len p xs) in
    rw (get_or-take (prefix_len p xs) xs k 0 lt) (prefix_len_passes p xs k 0 lt))

pub front_stops : (p : ℕ → Bool) (xs : List ℕ) → Stops p (drop (prefix_len p xs) xs)
front_stops p [] = tt
front_stops p (x ∷ xs) =
    elim (p x) as (λ b. p x ≡ b → Stops p (drop (cond b (1 + prefix_len p xs) 0) (x ∷ xs))) [
      | true ↦ λ e. rw one-add (front_stops p xs)
      | false ↦ λ e. e
    ] refl

-- ---- texts between marks

abbrev pub body : List ℕ → List ℕ
body content = flat_map doubled content

pub by_mark : (b : ℕ) → ((b ≡ 34) × (doubled b ≡ 34 ∷ 34 ∷ [])) ⊎ ((b ≡ 34 → ⊥) × (doubled b ≡ b ∷ []))
by_mark b =
    elim (eqb b 34) as (λ t. eqb b 34 ≡ t → ((b ≡ 34) × (cond t (34 ∷ 34 ∷ []) (b ∷ []) ≡ 34 ∷ 34 ∷ [])) ⊎ ((b ≡ 34 → ⊥) × (cond t (34 ∷ 34 ∷ []) (b ∷ []) ≡ b ∷ []))) [
      | true ↦ λ e. inl ((grind arith), refl)
      | false ↦ λ e. inr ((λ h. grind arith), refl)
    ] refl

pub body-mark : (b : ℕ) (c : List ℕ) → doubled b ≡ 34 ∷ 34 ∷ [] → body (b ∷ c) ≡ 34 ∷ 34 ∷ body c
body-mark b c e = ap (λ (x : List ℕ). x ++ body c) e

pub body-plain : (b : ℕ) (c : List ℕ) → doubled b ≡ b ∷ [] → body (b ∷ c) ≡ b ∷ body c
body-plain b c e = ap (λ (x : List ℕ). x ++ body c) e

no_stop : (xs ys : List ℕ) → xs ≡ 34 ∷ ys → Stops is_mark xs → ⊥
no_stop xs ys e s = let t : Stops is_mark (34 ∷ ys) = subst (λ l. Stops is_mark l) e s in cc

-- bytes with doubled marks do not contain a single mark
pub no_mark : (c e r : List ℕ) → body c ≡ body e ++ (34 ∷ r) → Stops is_mark r → ⊥
no_mark [] [] r h s = cc
no_mark [] (x ∷ e) r h s =
    elim (by_mark x) [
      | inl m ↦ let g = h ∙ ap (λ (l : List ℕ). l ++ (34 ∷ r)) (body-mark x e m.1) in cc
      | inr n ↦ let g = h ∙ ap (λ (l : List ℕ). l ++ (34 ∷ r)) (body-plain x e n.1) in cc
    ]
no_mark (b ∷ c) [] r h s =
    elim (by_mark b) [
      | inl m ↦ let g = sym (body-mark b c m.1) ∙ h in no_stop r (body c) (cc) s
      | inr n ↦ let g = sym (body-plain b c n.1) ∙ h in n.0 cc
    ]
no_mark (b ∷ c) (x ∷ e) r h s =
    elim (by_mark b) [
      | inl m ↦ elim (by_mark x) [
        | inl k ↦ let g = sym (body-mark b c m.1) ∙ (h ∙ ap (λ (l : List ℕ). l ++ (34 ∷ r)) (body-mark x e k.1)) in no_mark c e r (cc) s
        | inr n ↦ let g = sym (body-mark b c m.1) ∙ (h ∙ ap (λ (l : List ℕ). l ++ (34 ∷ r)) (body-plain x e n.1)) in n.0 cc
      ]
      | inr m ↦ elim (by_mark x) [
        | inl k ↦ let g = sym (body-plain b c m.1) ∙ (h ∙ ap (λ (l : List ℕ). l ++ (34 ∷ r)) (body-mark x e k.1)) in m.0 cc
        | inr n ↦ let g = sym (body-plain b c m.1) ∙ (h ∙ ap (λ (l : List ℕ). l ++ (34 ∷ r)) (body-plain x e n.1)) in no_mark c e r (cc) s
      ]
    ]

-- ---- the loop that looks for the closing mark

pub record Inside (bytes : List ℕ) (i : ℕ) : Type 0 where
  pub content : List ℕ
  pub is : take i bytes ≡ body content

body_push : (c : List ℕ) (b : ℕ) → body (c ++ b ∷ []) ≡ body c ++ doubled b
body_push c b = sym (flat_map_more doubled [] c b)

pub plain_more : (bytes : List ℕ) (i : ℕ) → i < length bytes → (get_or bytes i 0 ≡ 34 → ⊥) → Inside bytes i → Inside bytes (i + 1)
plain_more bytes i h n w =
    let b = get_or bytes i 0 in
    elim (by_mark b) [
      | inl m ↦ absurd (n m.0)
      | inr m ↦ record { content = w.content ++ b ∷ []; is = take_more bytes i 0 h ∙ (ap (λ (l : List ℕ). l ++ b ∷ []) w.is ∙ (ap (λ (l : List ℕ). body w.content ++ l) (sym m.1) ∙ sym (body_push w.content b))) }
    ]

pub found_more : (bytes : List ℕ) (i : ℕ) → i < length bytes → get_or bytes i 0 ≡ 34 → (w : Inside bytes i) → take (i + 1) bytes ≡ body w.content ++ 34 ∷ []
found_more bytes i h e w = take_more bytes i 0 h ∙ (ap (λ (l : List ℕ). l ++ get_or bytes i 0 ∷ []) w.is ∙ ap (λ (x : ℕ). body w.content ++ x ∷ []) e)

pub mark_more : (bytes : List ℕ) (i : ℕ) → i + 1 < length bytes → get_or bytes i 0 ≡ 34 → get_or bytes (i + 1) 0 ≡ 34 → Inside bytes i → Inside bytes (i + 1 + 1)
mark_more bytes i h e f w =
    record {
      content = w.content ++ 34 ∷ [];
      is = take_more bytes (i + 1) 0 h
          ∙ (ap (λ (l : List ℕ). l ++ get_or bytes (i + 1) 0 ∷ []) (found_more bytes i (omega arith) e w)
          ∙ (ap (λ (x : ℕ). (body w.content ++ 34 ∷ []) ++ x ∷ []) f
          ∙ (append_assoc (body w.content) (34 ∷ []) (34 ∷ []) ∙ sym (body_push w.content 34))));
    }

pub none_closes : (bytes : List ℕ) (i : ℕ) → length bytes ≤ i → Inside bytes i → IsUnclosed bytes
none_closes bytes i h w content rest e s = no_mark w.content content rest (sym w.is ∙ (take_all i bytes h ∙ e)) s

pub mark_more_2 : (bytes : List ℕ) (i : ℕ) → i + 1 < length bytes → get_or bytes i 0 ≡ 34 → get_or bytes (i + 1) 0 ≡ 34 → Inside bytes i → Inside bytes (i + 2)
mark_more_2 bytes i h e f w = let same : i + 1 + 1 ≡ i + 2 = omega arith in subst (λ k. Inside bytes k) same (mark_more bytes i h e f w)

-- ---- one token

pub no_blanks : (place : ℕ) (bytes : List ℕ) → Blanks place bytes place bytes
no_blanks place bytes = record { blanks = []; all = All-nil (λ x. is_blank x ≡ true); whole = refl; moved = omega arith }

pub bad_byte : (place : ℕ) (bytes others : List ℕ) (b : ℕ) → bytes ≡ b ∷ others → Stops is_blank bytes → begun_by b ≡ None → After_blanks place bytes NoToken place
bad_byte place bytes others b e s n =
    record { from = bytes; blank = no_blanks place bytes; is = subst (λ l. NoToken l) (sym e) (subst (λ l. Stops is_blank l) e s, n) }

pub open_text : (place : ℕ) (bytes others : List ℕ) (b : ℕ) (kind : TokenKind) → bytes ≡ b ∷ others → begun_by b ≡ Some kind → kind ≡ Quoted → IsUnclosed others → After_blanks place bytes OpenText place
open_text place bytes others b kind e k q u =
    record { from = bytes; blank = no_blanks place bytes; is = subst (λ l. OpenText l) (sym e) (k ∙ ap Some q, u) }

pub lexeme_of : (bytes others : List ℕ) (b : ℕ) (kind : TokenKind) (n : ℕ) → bytes ≡ b ∷ others → begun_by b ≡ Some kind → Follow kind (take n others) → Ends kind (drop n others) → Lexeme kind bytes (take (1 + n) bytes) (drop (1 + n) bytes)
lexeme_of bytes others b kind n e k f s =
    let front : take (1 + n) bytes ≡ b ∷ take n others = rw (e, one-add) refl in
    let back : drop (1 + n) bytes ≡ drop n others = rw (e, one-add) refl in
    record {
      first = b;
      others = take n others;
      parts = front;
      begun = k;
      follow = f;
      ends = subst (λ l. Ends kind l) (sym back) s;
      whole = sym (take-append-drop (1 + n) bytes);
    }

pub lexed_of_lexeme : (place : ℕ) (bytes token rest : List ℕ) (kind : TokenKind) → Lexeme kind bytes token rest → Lexed place bytes (record { kind = kind; piece = record { place = place; bytes = token } }) rest
lexed_of_lexeme place bytes token rest kind l = record { from = bytes; blank = no_blanks place bytes; lexeme = l }

pub misread_is : (place : ℕ) (bytes rest : List ℕ) (kind : TokenKind) (piece : Piece) (fault : TextFault) → Lexed place bytes (tok kind piece) rest → Misread kind piece.bytes piece.place fault → Unreadable place bytes fault
misread_is place bytes rest Word piece fault l m = absurd m
misread_is place bytes rest Quoted piece fault l m = absurd m
misread_is place bytes rest Comma piece fault l m = absurd m
misread_is place bytes rest (Open d) piece fault l m = absurd m
misread_is place bytes rest (Close d) piece fault l m = absurd m
misread_is place bytes rest Number piece fault l (inl m) =
    subst (λ f. Unreadable place bytes f) (sym m.0) (record { from = l.from; blank = l.blank; is = record { token = piece.bytes; rest = rest; lexeme = l.lexeme; formless = m.1 } })
misread_is place bytes rest Number piece fault l (inr m) =
    subst (λ f. Unreadable place bytes f) (sym m.0)
    (record { from = l.from; blank = l.blank; is = record { token = piece.bytes; rest = rest; lexeme = l.lexeme; formed = m.1; spells_none = m.2 } })

-- ---- blanks before a token

more_blanks : (place place' at : ℕ) (bytes bytes' from : List ℕ) → Blanks place bytes place' bytes' → Blanks place' bytes' at from → Blanks place bytes at from
more_blanks place place' at bytes bytes' from a b =
    record {
      blanks = a.blanks ++ b.blanks;
      all = All-append (λ x. is_blank x ≡ true) a.blanks b.blanks a.all b.all;
      whole = a.whole ∙ (ap (λ (l : List ℕ). a.blanks ++ l) b.whole ∙ sym (append_assoc a.blanks b.blanks from));
      moved = omega (arith, a.moved, b.moved, length-append a.blanks b.blanks);
    }

after_more : (place place' at : ℕ) (bytes bytes' : List ℕ) (Is : List ℕ → Type 0) → Blanks place bytes place' bytes' → After_blanks place' bytes' Is at → After_blanks place bytes Is at
after_more place place' at bytes bytes' Is a h = record { from = h.from; blank = more_blanks place place' at bytes bytes' h.from a h.blank; is = h.is }

pub unreadable_after : (place place' : ℕ) (bytes bytes' : List ℕ) (fault : TextFault) → Blanks place bytes place' bytes' → Unreadable place' bytes' fault → Unreadable place bytes fault
unreadable_after place place' bytes bytes' (BadByte at) a h = after_more place place' at bytes bytes' NoToken a h
unreadable_after place place' bytes bytes' (TextOpen at) a h = after_more place place' at bytes bytes' OpenText a h
unreadable_after place place' bytes bytes' (BadNumber at) a h = after_more place place' at bytes bytes' NoNumeral a h
unreadable_after place place' bytes bytes' (NumberRange at) a h = after_more place place' at bytes bytes' NoDecimal a h
unreadable_after place place' bytes bytes' TooLong a h = absurd h
unreadable_after place place' bytes bytes' (NotUtf8 at) a h = absurd h
unreadable_after place place' bytes bytes' (Unexpected at) a h = absurd h
unreadable_after place place' bytes bytes' (Depth at) a h = absurd h
unreadable_after place place' bytes bytes' (EndEarly at) a h = absurd h
unreadable_after place place' bytes bytes' (After at) a h = absurd h

pub lexes_after : (place place' : ℕ) (bytes bytes' : List ℕ) (r : Result (Option Token) TextFault) → Blanks place bytes place' bytes' → Lexes place' bytes' r → Lexes place bytes r
lexes_after place place' bytes bytes' (Ok None) a h =
    subst (λ l. AllPass is_blank l) (sym a.whole) (All-append (λ x. is_blank x ≡ true) a.blanks bytes' a.all h)
lexes_after place place' bytes bytes' (Ok (Some t)) a h =
    (h.0, record { from = h.1.from; blank = more_blanks place place' t.place bytes bytes' h.1.from a h.1.blank; lexeme = h.1.lexeme })
lexes_after place place' bytes bytes' (Err fault) a h = unreadable_after place place' bytes bytes' fault a h

pub some_blanks : (place : ℕ) (bytes : List ℕ) (n : ℕ) → n ≤ length bytes → AllPass is_blank (take n bytes) → Blanks place bytes (place + n) (drop n bytes)
some_blanks place bytes n w a =
    record { blanks = take n bytes; all = a; whole = sym (take-append-drop n bytes); moved = ap (λ k. place + k) (sym (length-take-le n bytes w)) }
