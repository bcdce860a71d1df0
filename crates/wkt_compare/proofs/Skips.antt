-- The text of a tree is one text.
use Rattle.std.proofs.Common.{◌≡◌, ℕ, zero, suc, ◌+◌, ◌<◌, true, false, List, [], ◌∷◌, ◌++◌, length, refl, arith, sym, ◌∙◌, ap, subst, inl, inr, length-append, append_assoc}
use Rattle.std.specs.List.{AllPass}
use Rattle.std.specs.Char.{is_ascii_alphabetic}
use Rattle.std.proofs.lemmas.Bool.Decides.{nat_tests}
use Rattle.std.proofs.lemmas.List.Elements.{All-head, All-tail}
use Rattle.wkt_tree.specs.declared.token.TokenKind.TheVariants.{Word, Number}
use Rattle.wkt_tree.specs.Bytes.{is_word_byte, is_number_byte, begins_number}
use Rattle.wkt_tree.specs.Tokens.{is_mark}
use Rattle.wkt_tree.proofs.Lexemes.{by_mark, body, body-mark, body-plain}
use Rattle.wkt_tree.proofs.Sound.{word_begins, number_begins}
use Rattle.wkt_grammar.specs.Bare.{Bare, Bares, text, number, word, node, none, and}
use Rattle.wkt_write.specs.WellFormed.{IsToken, IsText, WellFormed, SomeWellFormed, AllWellFormed}
use Rattle.wkt_grammar.specs.Render.{render, render_all, render_behind}
use Rattle.wkt_compare.specs.Texts.{is_opening, is_closing}
use Rattle.wkt_compare.specs.Counting.{text_len}
use Rattle.wkt_compare.proofs.CutSteps.{at_other, at_closing, at_last}

-- the text continues after the bytes, with the same count
abbrev Passes : ℕ → List ℕ → Type 0
Passes count bytes = (rest : List ℕ) → text_len count false (bytes ++ rest) ≡ length bytes + text_len count false rest

-- the same, for every count above 0
abbrev Skips : List ℕ → Type 0
Skips bytes = (count : ℕ) → 0 < count → Passes count bytes

passes_append : (count : ℕ) (xs ys : List ℕ) → Passes count xs → Passes count ys → Passes count (xs ++ ys)
passes_append count xs ys p q rest =
    ap (text_len count false) (append_assoc xs ys rest) ∙ (p (ys ++ rest) ∙ omega (arith, q rest, length-append xs ys))

-- the byte is neither a mark nor a delimiter
record IsQuiet (b : ℕ) : Type 0 where
  mark : is_mark b ≡ false
  opening : is_opening b ≡ false
  closing : is_closing b ≡ false

passes_byte : (count b : ℕ) (bs : List ℕ) → IsQuiet b → Passes count bs → Passes count (b ∷ bs)
passes_byte count b bs q p rest = (at_other count b q.mark q.opening q.closing).len (bs ++ rest) ∙ omega (arith, p rest)

passes_nothing : (count : ℕ) → Passes count []
passes_nothing count rest = omega arith

word_quiet : (b : ℕ) → is_word_byte b ≡ true → IsQuiet b
word_quiet b h = record { mark = grind (arith, nat_tests); opening = grind (arith, nat_tests); closing = grind (arith, nat_tests) }

number_quiet : (b : ℕ) → is_number_byte b ≡ true → IsQuiet b
number_quiet b h = record { mark = grind (arith, nat_tests); opening = grind (arith, nat_tests); closing = grind (arith, nat_tests) }

passes_words : (bs : List ℕ) (count : ℕ) → AllPass is_word_byte bs → Passes count bs
passes_words [] count a = passes_nothing count
passes_words (b ∷ bs) count a = passes_byte count b bs (word_quiet b (All-head (λ z. is_word_byte z ≡ true) b bs a)) (passes_words bs count (All-tail (λ z. is_word_byte z ≡ true) b bs a))

passes_numbers : (bs : List ℕ) (count : ℕ) → AllPass is_number_byte bs → Passes count bs
passes_numbers [] count a = passes_nothing count
passes_numbers (b ∷ bs) count a = passes_byte count b bs (number_quiet b (All-head (λ z. is_number_byte z ≡ true) b bs a)) (passes_numbers bs count (All-tail (λ z. is_number_byte z ≡ true) b bs a))

-- the first byte of a word or of a number is neither a mark nor a delimiter
letter_quiet : (b : ℕ) → is_ascii_alphabetic b ≡ true → IsQuiet b
letter_quiet b h = record { mark = grind (arith, nat_tests); opening = grind (arith, nat_tests); closing = grind (arith, nat_tests) }

numeral_quiet : (b : ℕ) → begins_number b ≡ true → IsQuiet b
numeral_quiet b h = record { mark = grind (arith, nat_tests); opening = grind (arith, nat_tests); closing = grind (arith, nat_tests) }

passes_word : (count : ℕ) (bs : List ℕ) → IsToken Word bs → Passes count bs
passes_word count bs t = subst (λ l. Passes count l) (sym t.parts) (passes_byte count t.first t.others (letter_quiet t.first (word_begins t.first t.begun)) (passes_words t.others count t.follow))

passes_number : (count : ℕ) (bs : List ℕ) → IsToken Number bs → Passes count bs
passes_number count bs t = subst (λ l. Passes count l) (sym t.parts) (passes_byte count t.first t.others (numeral_quiet t.first (number_begins t.first t.begun)) (passes_numbers t.others count t.follow))

no_mark : (b : ℕ) → (b ≡ 34 → ⊥) → is_mark b ≡ false
no_mark b h = grind (arith, nat_tests)

-- inside marks, the text continues after the content
inside : (content : List ℕ) (count : ℕ) (rest : List ℕ) → text_len count true (body content ++ rest) ≡ length (body content) + text_len count true rest
inside [] count rest = omega arith
inside (b ∷ bs) count rest = elim (by_mark b) [
  | inl h ↦ ap (λ l. text_len count true (l ++ rest)) (body-mark b bs h.1) ∙ omega (arith, inside bs count rest, ap length (body-mark b bs h.1))
  | inr h ↦ ap (λ l. text_len count true (l ++ rest)) (body-plain b bs h.1) ∙ (simp (no_mark b h.0) (omega (arith, inside bs count rest, ap length (body-plain b bs h.1))))
]

passes_text : (count : ℕ) (bs : List ℕ) → IsText bs → Passes count bs
passes_text count bs t = subst (λ l. Passes count l) (sym t.is) (λ rest.
    ap (λ l. suc (text_len count true l)) (append_assoc (body t.content) (34 ∷ []) rest)
    ∙ omega (arith, inside t.content count (34 ∷ rest), length-append (body t.content) (34 ∷ [])))

-- bytes between delimiters are skipped if they are skipped without these
skips_node : (bs : List ℕ) → Skips bs → Skips (91 ∷ (bs ++ (93 ∷ [])))
skips_node bs s count l rest =
    let inner : text_len (count + 1) false (bs ++ (93 ∷ rest)) ≡ length bs + text_len (count + 1) false (93 ∷ rest) = s (count + 1) (omega arith) (93 ∷ rest) in
    let closed : text_len (count + 1) false (93 ∷ rest) ≡ suc (text_len count false rest) =
    (at_closing (count + 1) 93 refl refl refl (grind (arith, nat_tests))).len rest ∙ ap (λ n. suc (text_len n false rest)) (omega arith) in
    ap (λ l. suc (text_len (count + 1) false l)) (append_assoc bs (93 ∷ []) rest) ∙ omega (arith, inner, closed, length-append bs (93 ∷ []))

mutual
  item : (x : Bare) (n : ℕ) → WellFormed n x → Skips (render x)
  item (text b) n g count l = passes_text count b g
  item (number b) n g count l = passes_number count b g
  item (word b) n g count l = passes_word count b g
  item (node k xs) zero g count l = absurd g
  item (node k xs) (suc n) g count l = passes_append count k (91 ∷ (render_all xs ++ (93 ∷ []))) (passes_word count k g.0) (skips_node (render_all xs) (some_items xs n g.1) count l)

  some_items : (xs : Bares) (n : ℕ) → SomeWellFormed n xs → Skips (render_all xs)
  some_items none n g count l = absurd g
  some_items (and i r) n g count l = passes_append count (render i) (render_behind r) (item i n g.0 count l) (later_items r n g.1 count l)

  later_items : (xs : Bares) (n : ℕ) → AllWellFormed n xs → Skips (render_behind xs)
  later_items none n g count l = passes_nothing count
  later_items (and i r) n g count l = passes_byte count 44 (render i ++ render_behind r) (record { mark = refl; opening = refl; closing = refl })
      (passes_append count (render i) (render_behind r) (item i n g.0 count l) (later_items r n g.1 count l))

-- the text of a node is one text, whatever follows it
pub one_text : (k : List ℕ) (xs : Bares) (n : ℕ) → WellFormed n (node k xs) → (rest : List ℕ) → text_len 0 false (render (node k xs) ++ rest) ≡ length (render (node k xs))
one_text k xs zero g rest = absurd g
one_text k xs (suc n) g rest =
    let inner : text_len 1 false (render_all xs ++ (93 ∷ rest)) ≡ length (render_all xs) + text_len 1 false (93 ∷ rest) = some_items xs n g.1 1 (omega arith) (93 ∷ rest) in
    let last : text_len 1 false (93 ∷ rest) ≡ 1 = (at_last 1 93 refl refl refl refl).len rest in
    ap (text_len 0 false) (append_assoc k (91 ∷ (render_all xs ++ (93 ∷ []))) rest)
    ∙ (passes_word 0 k g.0 (91 ∷ ((render_all xs ++ (93 ∷ [])) ++ rest))
    ∙ (ap (λ l. length k + suc (text_len 1 false l)) (append_assoc (render_all xs) (93 ∷ []) rest)
    ∙ omega (arith, inner, last, length-append k (91 ∷ (render_all xs ++ (93 ∷ []))), length-append (render_all xs) (93 ∷ []))))
