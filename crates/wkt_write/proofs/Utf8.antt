-- The text of a tree is UTF-8.
use Rattle.std.proofs.Common.{◌≡◌, ℕ, zero, suc, ◌<◌, ◌≤◌, true, List, [], ◌∷◌, ◌++◌, length, get_or, refl, sym, ap, ◌∙◌, subst, ⊎_elim, arith, append-nil, IsUtf8}
use Rattle.std.specs.Prelude.{◌⊎◌}
use Rattle.std.specs.List.{AllPass, flat_map}
use lib.Utf8.{scalars, scalar, encodes, encode}
use Rattle.std.proofs.lemmas.List.Concat.{flat_map-append}
use Rattle.std.proofs.lemmas.Str.{IsUtf8-nil, IsUtf8-append, encode_ascii, inside_one, IsUtf8-encode}
use Rattle.std.proofs.lemmas.Bool.{cases_lt, and_parts}
use Rattle.wkt_tree.specs.declared.token.TokenKind.TheVariants.{Word, Number}
use Rattle.wkt_tree.specs.Bytes.{is_blank, is_word_byte, is_number_byte}
use Rattle.wkt_tree.specs.Tokens.{doubled, quoted}
use Rattle.wkt_tree.proofs.Lexemes.{by_mark}
use Rattle.wkt_tree.proofs.Utf8.{blank_small, word_small, number_small, begun_small}
use Rattle.wkt_grammar.specs.Bare.{Bare, Bares, text, number, word, node, none, and}
use Rattle.wkt_write.specs.WellFormed.{IsToken, WellFormed, AllWellFormed}
use Rattle.wkt_write.specs.declared.layout.Layout as layouts
use Rattle.wkt_write.specs.Layout.{before, inner, laid, laid_all, laid_behind}
use Rattle.wkt_write.proofs.Placing.{before_blank}
use Rattle.wkt_write.proofs.TokenUtf8.{ascii_cons, ascii_all}

ascii_one : (b : ℕ) → b < 128 → IsUtf8 (b ∷ [])
ascii_one b h = ascii_cons b [] h IsUtf8-nil

-- ---- quoted texts

-- doubling marks does not change bytes without a mark
undoubled : (xs : List ℕ) → ((k : ℕ) → k < length xs → get_or xs k 0 ≡ 34 → ⊥) → flat_map doubled xs ≡ xs
undoubled [] h = refl
undoubled (x ∷ xs) h = ⊎_elim
    (λ m. absurd (h 0 (omega arith) m.0))
    (λ n. ap (λ l. l ++ flat_map doubled xs) n.1 ∙ ap (λ (l : List ℕ). x ∷ l) (undoubled xs (λ k below. h (suc k) (omega arith))))
    (by_mark x)

no_mark_inside : (c : ℕ) → 128 ≤ c → flat_map doubled (encode c) ≡ encode c
no_mark_inside c h = undoubled (encode c) (λ k below is. omega (arith, h, is, inside_one c [] (encode c) k (sym (append-nil (encode c))) below (omega (arith, is))))

doubled_char : (c : ℕ) → scalar c ≡ true → IsUtf8 (flat_map doubled (encode c))
doubled_char c s = ⊎_elim
    (λ small. rw (encode_ascii c small) (⊎_elim
    (λ m. subst IsUtf8 (sym (ap (λ (l : List ℕ). l ++ []) m.1)) (ascii_cons 34 (34 ∷ []) (omega arith) (ascii_one 34 (omega arith))))
    (λ n. subst IsUtf8 (sym (ap (λ (l : List ℕ). l ++ []) n.1)) (ascii_one c small))
    (by_mark c)))
    (λ large. rw (no_mark_inside c large) (IsUtf8-encode c s))
    (cases_lt c 128)

doubled_chars : (cs : List ℕ) → scalars cs ≡ true → IsUtf8 (flat_map doubled (encodes cs))
doubled_chars [] s = IsUtf8-nil
doubled_chars (c ∷ cs) s =
    let parts = and_parts (scalar c) (scalars cs) s in
    subst IsUtf8 (sym (flat_map-append doubled (encode c) (encodes cs)))
    (IsUtf8-append (flat_map doubled (encode c)) (flat_map doubled (encodes cs)) (doubled_char c parts.0) (doubled_chars cs parts.1))

pub quoted_utf8 : (content : List ℕ) → IsUtf8 content → IsUtf8 (quoted content)
quoted_utf8 content u =
    ascii_cons 34 (flat_map doubled content ++ 34 ∷ []) (omega arith)
    (IsUtf8-append (flat_map doubled content) (34 ∷ []) (subst (λ x. IsUtf8 (flat_map doubled x)) u.1.1 (doubled_chars u.0 u.1.0)) (ascii_one 34 (omega arith)))

-- ---- blanks, words and numbers

word_utf8 : (b : List ℕ) → IsToken Word b → IsUtf8 b
word_utf8 b t = subst IsUtf8 (sym t.parts) (ascii_cons t.first t.others (begun_small t.first Word t.begun) (ascii_all is_word_byte word_small t.others t.follow))

number_utf8 : (b : List ℕ) → IsToken Number b → IsUtf8 b
number_utf8 b t = subst IsUtf8 (sym t.parts) (ascii_cons t.first t.others (begun_small t.first Number t.begun) (ascii_all is_number_byte number_small t.others t.follow))

-- ---- trees

node_utf8 : (blanks k inside : List ℕ) → AllPass is_blank blanks → IsToken Word k → IsUtf8 inside → IsUtf8 (blanks ++ (k ++ (91 ∷ (inside ++ 93 ∷ []))))
node_utf8 blanks k inside b t u =
    IsUtf8-append blanks (k ++ (91 ∷ (inside ++ 93 ∷ []))) (ascii_all is_blank blank_small blanks b)
    (IsUtf8-append k (91 ∷ (inside ++ 93 ∷ [])) (word_utf8 k t)
    (ascii_cons 91 (inside ++ 93 ∷ []) (omega arith) (IsUtf8-append inside (93 ∷ []) u (ascii_one 93 (omega arith)))))

mutual
  unfolding laid laid_all laid_behind

  pub laid_utf8 : (t : Bare) (layout : layouts.Layout) (n : ℕ) → WellFormed n t → IsUtf8 (laid layout t)
  laid_utf8 (text b) layout n g = subst IsUtf8 (sym g.is) (quoted_utf8 g.content g.utf8)
  laid_utf8 (number b) layout n g = number_utf8 b g
  laid_utf8 (word b) layout n g = word_utf8 b g
  laid_utf8 (node k xs) layout zero g = absurd g
  laid_utf8 (node k none) layout (suc n) g = absurd g.1
  laid_utf8 (node k (and i r)) layout (suc n) g =
      node_utf8 (before layout) k (laid (inner layout) i ++ laid_behind (inner layout) r) (before_blank layout) g.0
      (IsUtf8-append (laid (inner layout) i) (laid_behind (inner layout) r) (laid_utf8 i (inner layout) n g.1.0) (behind_utf8 r (inner layout) n g.1.1))

  behind_utf8 : (r : Bares) (layout : layouts.Layout) (n : ℕ) → AllWellFormed n r → IsUtf8 (laid_behind layout r)
  behind_utf8 none layout n g = IsUtf8-nil
  behind_utf8 (and i r) layout n g = ascii_cons 44 _ (omega arith) (IsUtf8-append (laid layout i) (laid_behind layout r) (laid_utf8 i layout n g.0) (behind_utf8 r layout n g.1))
