-- If bytes consist of tokens, `cut` computes these tokens.
use Rattle.std.proofs.Common.{◌≡◌, ℕ, zero, suc, ◌+◌, ◌<◌, ◌≤◌, Bool, true, false, cond, List, [], ◌∷◌, ◌++◌, length, take, drop, Option, Some, None, refl, sym, ap, ◌∙◌, subst, append_assoc, arith, inl, inr}
use Rattle.std.specs.Prelude.{◌⊎◌, option_and_then}
use Rattle.std.specs.Option.{option_map}
use Rattle.std.specs.List.{AllPass, prefix_len}
use Rattle.std.proofs.Math.Numerals.{one-add, add-one}
use Rattle.std.proofs.lemmas.List.{append-nil, take_at, drop_at, length-append}
use Rattle.std.proofs.lemmas.List.Elements.{All-head, All-tail}
use Rattle.wkt_tree.specs.declared.token.TokenKind.{TokenKind}
use Rattle.wkt_tree.specs.declared.token.TokenKind.TheVariants.{Word, Quoted, Number, Comma, Open, Close}
use Rattle.wkt_tree.specs.Bytes.{is_blank, is_word_byte, is_number_byte, begun_by}
use Rattle.wkt_tree.specs.Tree.{Tok, tok}
use Rattle.wkt_tree.specs.Tokens.{Stops, is_mark, Follow, Ends, Lexeme, Lexed, First, Cut, end_of}
use Rattle.wkt_tree.specs.Cut.{text_len, follow_count, lexeme_at, token_behind, first_token, behind, cut_from, cut_within, cut}
use Rattle.wkt_tree.proofs.Lexemes.{body, by_mark, body-mark, body-plain}

pub prefix_is : (p : ℕ → Bool) (xs ys : List ℕ) → AllPass p xs → Stops p ys → prefix_len p (xs ++ ys) ≡ length xs
prefix_is p [] [] a s = refl
prefix_is p [] (y ∷ ys) a s = ap (λ b. cond b (1 + prefix_len p ys) 0) s
prefix_is p (x ∷ xs) ys a s =
    ap (λ b. cond b (1 + prefix_len p (xs ++ ys)) 0) (All-head (λ z. p z ≡ true) x xs a)
    ∙ (one-add (prefix_len p (xs ++ ys)) ∙ ap suc (prefix_is p xs ys (All-tail (λ z. p z ≡ true) x xs a) s))

not_mark : (b : ℕ) → (b ≡ 34 → ⊥) → is_mark b ≡ false
not_mark b h = grind arith

ended : (r : List ℕ) → Stops is_mark r → text_len true r ≡ Some 0
ended [] s = refl
ended (b ∷ r) s = ap (λ t. cond t (option_map suc (text_len false r)) (Some 0)) s

text_is : (c r : List ℕ) → Stops is_mark r → text_len false (body c ++ (34 ∷ r)) ≡ Some (suc (length (body c)))
text_is [] r s = ap (option_map suc) (ended r s)
text_is (b ∷ c) r s =
    elim (by_mark b) [
      | inl m ↦ let e = body-mark b c m.1 in rw (e) (ap (λ o. option_map suc (option_map suc o)) (text_is c r s))
      | inr m ↦ let e = body-plain b c m.1 in rw (e) (ap (λ t. option_map suc (text_len t (body c ++ (34 ∷ r)))) (not_mark b m.0) ∙ ap (option_map suc) (text_is c r s))
    ]

follow_is : (k : TokenKind) (others rest : List ℕ) → Follow k others → Ends k rest → follow_count k (others ++ rest) ≡ Some (length others)
follow_is Word others rest f e = ap Some (prefix_is is_word_byte others rest f e)
follow_is Number others rest f e = ap Some (prefix_is is_number_byte others rest f e)
follow_is Quoted others rest f e =
    let same : others ++ rest ≡ body f.0 ++ (34 ∷ rest) = ap (λ (l : List ℕ). l ++ rest) f.1 ∙ append_assoc (body f.0) (34 ∷ []) rest in
    let n : length others ≡ suc (length (body f.0)) = ap length f.1 ∙ (length-append (body f.0) (34 ∷ []) ∙ add-one (length (body f.0))) in
    ap (text_len false) same ∙ (text_is f.0 rest e ∙ ap Some (sym n))
follow_is Comma others rest f e = ap (λ (l : List ℕ). Some (length l)) (sym f)
follow_is (Open d) others rest f e = ap (λ (l : List ℕ). Some (length l)) (sym f)
follow_is (Close d) others rest f e = ap (λ (l : List ℕ). Some (length l)) (sym f)

abbrev pub Found : Type 0
Found = TokenKind × ℕ

abbrev pub found : TokenKind → ℕ → Option Found
found k n = Some (k, n)

pub lexeme_is : (k : TokenKind) (bytes token rest : List ℕ) → Lexeme k bytes token rest → lexeme_at bytes ≡ found k (length token)
lexeme_is k bytes token rest l =
    let all : bytes ≡ l.first ∷ (l.others ++ rest) = l.whole ∙ ap (λ (x : List ℕ). x ++ rest) l.parts in
    let n : length token ≡ suc (length l.others) = ap length l.parts in
    ap lexeme_at all
    ∙ (ap (option_and_then (λ kind. option_map (λ m. (kind, suc m)) (follow_count kind (l.others ++ rest)))) l.begun
    ∙ (ap (option_map (λ m. (k, suc m))) (follow_is k l.others rest l.follow l.ends) ∙ ap (found k) (sym n)))

blank_none : (b : ℕ) → is_blank b ≡ true → begun_by b ≡ None
unfolding begun_by
blank_none b h =
    elim (which b h) [
      | inl e ↦ rw (e) refl
      | inr g ↦ elim g [
        | inl e ↦ rw (e) refl
        | inr f ↦ elim f [ inl e ↦ rw (e) refl | inr e ↦ rw (e) refl ]
      ]
    ]
  where
    which : (b : ℕ) → is_blank b ≡ true → (b ≡ 32) ⊎ ((b ≡ 9) ⊎ ((b ≡ 13) ⊎ (b ≡ 10)))
    which b h = grind arith

pub begins_unblank : (b : ℕ) (k : TokenKind) → begun_by b ≡ Some k → is_blank b ≡ false
begins_unblank b k h =
    elim (is_blank b) as (λ t. is_blank b ≡ t → t ≡ false) [
      | true ↦ λ e. let n = blank_none b e in absurd cc
      | false ↦ λ e. refl
    ] refl

-- if bytes begin with a token, `first_token` and `behind` compute it and the bytes after it
pub lexed_is : (place : ℕ) (bytes : List ℕ) (t : Tok) (rest : List ℕ) → Lexed place bytes t rest → (first_token place bytes ≡ Some t) × (behind bytes t ≡ rest)
lexed_is place bytes t rest f =
    let l = f.lexeme in
    let b = f.blank.blanks in
    let begin : f.from ≡ l.first ∷ (l.others ++ rest) = l.whole ∙ ap (λ (x : List ℕ). x ++ rest) l.parts in
    let stops : Stops is_blank f.from = subst (λ x. Stops is_blank x) (sym begin) (begins_unblank l.first t.kind l.begun) in
    let n : prefix_len is_blank bytes ≡ length b = ap (prefix_len is_blank) f.blank.whole ∙ prefix_is is_blank b f.from f.blank.all stops in
    let from : drop (prefix_len is_blank bytes) bytes ≡ f.from = ap (λ k. drop k bytes) n ∙ (ap (drop (length b)) f.blank.whole ∙ drop_at b f.from (length b) refl) in
    let at : place + prefix_len is_blank bytes ≡ t.piece.place = ap (λ k. place + k) n ∙ sym f.blank.moved in
    let front : take (length t.piece.bytes) f.from ≡ t.piece.bytes = ap (take (length t.piece.bytes)) l.whole ∙ take_at t.piece.bytes rest (length t.piece.bytes) refl in
    let back : drop (length t.piece.bytes) f.from ≡ rest = ap (drop (length t.piece.bytes)) l.whole ∙ drop_at t.piece.bytes rest (length t.piece.bytes) refl in (
      ap (λ p. token_behind p (drop (prefix_len is_blank bytes) bytes)) at
          ∙ (ap (token_behind t.piece.place) from
          ∙ (ap (option_map (λ (x : Found). tok x.0 (record { place = t.piece.place; bytes = take x.1 f.from }))) (lexeme_is t.kind f.from t.piece.bytes rest l)
          ∙ ap (λ (x : List ℕ). Some (tok t.kind (record { place = t.piece.place; bytes = x }))) front)),
      ap (drop (length t.piece.bytes)) from ∙ back,
    )

abbrev pub lexed : {place : ℕ} {bytes : List ℕ} {t : Tok} {rest : List ℕ} → First place bytes t rest → Lexed place bytes t rest
lexed f = record { from = f.from; blank = f.blank; lexeme = f.lexeme }

pub first_is : (place : ℕ) (bytes : List ℕ) (t : Tok) (rest : List ℕ) → First place bytes t rest → (first_token place bytes ≡ Some t) × (behind bytes t ≡ rest)
first_is place bytes t rest f = lexed_is place bytes t rest (lexed f)

-- if all elements pass, the longest prefix that passes is the whole list
pub prefix_all : (p : ℕ → Bool) (xs : List ℕ) → AllPass p xs → prefix_len p xs ≡ length xs
prefix_all p xs a = ap (prefix_len p) (sym (append-nil xs)) ∙ prefix_is p xs [] a tt

pub blank_is : (place : ℕ) (bytes : List ℕ) → AllPass is_blank bytes → first_token place bytes ≡ None
blank_is place bytes a =
    let n = prefix_all is_blank bytes a in
    let gone : drop (prefix_len is_blank bytes) bytes ≡ [] = ap (λ k. drop k bytes) n ∙ (ap (drop (length bytes)) (sym (append-nil bytes)) ∙ drop_at bytes [] (length bytes) refl) in
    ap (token_behind (place + prefix_len is_blank bytes)) gone

-- ---- all tokens

first_shorter : (place : ℕ) (bytes : List ℕ) (t : Tok) (rest : List ℕ) → First place bytes t rest → length rest < length bytes
first_shorter place bytes t rest f =
    let l = f.lexeme in
    let n = ap length f.blank.whole ∙ length-append f.blank.blanks f.from in
    let m = ap length l.whole ∙ length-append t.piece.bytes rest in
    let k = ap length l.parts in
    omega (arith, n, m, k)

cut_is : (ts : List Tok) (n place : ℕ) (bytes : List ℕ) → length bytes ≤ n → Cut place bytes ts → cut_within n place bytes ≡ ts
cut_is [] zero place bytes h c = refl
cut_is [] (suc n) place bytes h c =
    ap (cut_from bytes (cut_within n)) (blank_is place bytes (subst (λ l. AllPass is_blank l) (sym c.front.1) c.blank))
cut_is (t ∷ ts) zero place bytes h c = let s = first_shorter place bytes t c.front.0 c.front.1 in absurd (omega arith)
cut_is (t ∷ ts) (suc n) place bytes h c =
    let s = first_shorter place bytes t c.front.0 c.front.1 in
    let i = first_is place bytes t c.front.0 c.front.1 in
    let le : length c.front.0 ≤ n = omega arith in
    ap (cut_from bytes (cut_within n)) i.0
    ∙ ap (λ (x : List Tok). t ∷ x) (ap (cut_within n (end_of t)) i.1 ∙ cut_is ts n (end_of t) c.front.0 le (record { place' = c.place'; rest = c.rest; front = c.front.2; blank = c.blank }))

-- if bytes consist of tokens, `cut` returns these tokens
pub cut_of : (place : ℕ) (bytes : List ℕ) (ts : List Tok) → Cut place bytes ts → cut place bytes ≡ ts
unfolding cut
cut_of place bytes ts c = cut_is ts (length bytes) place bytes (omega arith) c

-- a text consists of at most one list of tokens
pub one_cut : (text : List ℕ) (ts us : List Tok) → Cut 0 text ts → Cut 0 text us → ts ≡ us
one_cut text ts us f g = sym (cut_of 0 text ts f) ∙ cut_of 0 text us g
