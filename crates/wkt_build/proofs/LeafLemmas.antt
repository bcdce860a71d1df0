-- The values of texts, numbers and words.
use Rattle.std.proofs.Common.{◌≡◌, ℕ, ◌<◌, ◌^◌, Bool, true, false, List, [], ◌∷◌, ◌++◌, map, drop, slice_get, Option, Some, None, Result, Ok, Err, IfOk, refl, sym, ap, ◌∙◌, subst, pos}
use Rattle.std.specs.Prelude.{cond, if◌then◌else◌}
use Rattle.std.specs.Option.{is_some}
use Rattle.std.specs.Char.{to_ascii_lowercase}
use Rattle.std.specs.Str.{bytes_eq, is_utf8}
use Rattle.std.proofs.lemmas.Str.{is_utf8-from_IsUtf8}
use Rattle.std.proofs.lemmas.Slice.Eq.{bytes_eq-Decides}
use Rattle.std.specs.Bool.{Decides}
use Rattle.crs_number.specs.Value.{IsWhole}
use Rattle.crs_number.specs.Count.{SpellsWhole, IsCount, is_count}
use Rattle.crs_number.specs.declared.decimals.Decimal.{Decimal}
use Rattle.crs_number.proofs.CountLemmas.{count_from}
use Rattle.crs_number.proofs.Once.{spells_once}
use Rattle.crs_part.specs.declared.text.Text.{Text}
use Rattle.crs_part.specs.declared.identifiers.NumberOrText.TheVariants as code
use Rattle.wkt_tree.specs.declared.token.TokenKind.TheVariants.{Word, Quoted, Number}
use Rattle.wkt_tree.specs.Tree.{Piece, Tok, tok, Item, tokens}
use Rattle.wkt_tree.specs.Tree as tree
use Rattle.wkt_tree.specs.Tokens.{quoted, IsQuoted}
use Rattle.wkt_grammar.specs.declared.table.Takes.{Takes}
use Rattle.wkt_grammar.specs.declared.table.Takes.TheVariants as kinds
use Rattle.wkt_grammar.specs.declared.table.Argument.TheVariants as arguments
use Rattle.wkt_grammar.specs.declared.table.Keyword.{Keyword}
use Rattle.wkt_grammar.specs.Rows.{takes}
use Rattle.wkt_grammar.specs.Words.{keyword_of, is_cs_kind, is_direction}
use Rattle.wkt_grammar.specs.Slots.{argument_by}
use Rattle.wkt_grammar.specs.Bare.{Bare, text, bare, shape}
use Rattle.wkt_grammar.specs.SecondEdition.{Fitting}
use Rattle.wkt_grammar.specs.Leaves.{undoubled, DenotesText, DenotesNumber, DenotesCount, DenotesWord}
use Rattle.crs_part.specs.Words.{system_word, direction_word, first_word, kinds_listed, directions_listed}
use Rattle.wkt_grammar.specs.Denotes.{DenotesCode}
use Rattle.wkt_grammar.proofs.Leaves.{undoubled-quoted}
use Rattle.wkt_build.specs.Reads.{Next}
use Rattle.wkt_build.specs.Leaves.{TakesNumber, TakesText, TakesCount, TakesWord, next_is_number}

-- the text with the content of a quoted token
abbrev pub text_there : (bytes content : List ℕ) → IsQuoted bytes → content ≡ undoubled false (drop 1 bytes) → Text
text_there bytes content q e = record {
  bytes = content;
  utf8 = ap is_utf8 (e ∙ (ap (λ l. undoubled false (drop 1 l)) q.2 ∙ undoubled-quoted q.0)) ∙ is_utf8-from_IsUtf8 q.0 q.1;
}

-- ---- the items that these slots take

-- whether the slot takes a number, given whether the number is a count
abbrev numbered : Takes → Bool → Bool
numbered t c = takes t (cond c arguments.Count arguments.Number)

abbrev worded : Takes → Bool → Bool → Bool
worded t c d = takes t (cond c arguments.CsKind (cond d arguments.Direction arguments.OtherWord))

no_node : (t : Takes) → ((k : Keyword) → takes t (arguments.Node k) ≡ false) → (o : Option Keyword) → takes t (argument_by o) ≡ true → ⊥
no_node t h None e = cc
no_node t h (Some k) e = let z = sym (h k) ∙ e in cc

no_word : (t : Takes) → takes t arguments.CsKind ≡ false → takes t arguments.Direction ≡ false → (c d : Bool) → worded t c d ≡ true → ⊥
no_word t p q true d e = let z = sym p ∙ e in cc
no_word t p q false true e = let z = sym q ∙ e in cc
no_word t p q false false e = cc

no_number : (t : Takes) → takes t arguments.Count ≡ false → takes t arguments.Number ≡ false → (c : Bool) → numbered t c ≡ true → ⊥
no_number t p q true e = let z = sym p ∙ e in cc
no_number t p q false e = let z = sym q ∙ e in cc

-- ---- numbers

number_item : (i : Item) (old new rest : List Tok) (d : Decimal) → takes kinds.Number (shape (bare i)) ≡ true → old ≡ tokens i ++ rest → TakesNumber old new d → DenotesNumber (bare i) d × (new ≡ rest)
number_item (tree.number p) old new rest d t e m = let a = m (tok Number p) rest e refl in (record { bytes = p.bytes; is = refl; spells = a.0 }, a.1)
number_item (tree.text p) old new rest d t e m = absurd cc
number_item (tree.word p) old new rest d t e m = absurd (no_word kinds.Number refl refl (is_cs_kind p.bytes) (is_direction p.bytes) t)
number_item (tree.node k f o items c) old new rest d t e m = absurd (no_node kinds.Number (λ k. refl) (keyword_of k.bytes) t)

pub number_made : (old new : List Tok) (d : Decimal) → TakesNumber old new d → (x : Bare) (rest : List Tok) → Fitting kinds.Number x → Next x old rest → DenotesNumber x d × (new ≡ rest)
number_made old new d m x rest f n =
    let a = number_item n.item old new rest d (ap (λ y. takes kinds.Number (shape y)) n.is ∙ f.taken) n.tokens_are m in
    (subst (λ y. DenotesNumber y d) n.is a.0, a.1)

-- ---- counts

pub count_takes : (old new : List Tok) (d : Decimal) (o : Option ℕ) → TakesNumber old new d → ((n : ℕ) → n < 2 ^ 32 → IsWhole d.coefficient d.exponent (pos n) → o ≡ Some n) → (n : ℕ) → (o ≡ Some n → TakesCount old new n) × (o ≡ None → TakesCount old new n)
count_takes old new d o m h n = (λ s t rest e k c. some s t rest e k c, λ s t rest e k c. absurd (none s t rest e k c))
  where
    counted : (t : Tok) (rest : List Tok) → old ≡ t ∷ rest → t.kind ≡ Number → is_count t.piece.bytes ≡ true → (q : IsCount t.piece.bytes) × (o ≡ Some q.count) × (new ≡ rest)
    counted t rest e k c =
        let q = count_from t.piece.bytes c in
        let a = m t rest e k in
        let s = spells_once t.piece.bytes q.spelled.coefficient d.coefficient q.spelled.exponent d.exponent q.spelled.spells a.0 in
        (q, h q.count q.small (subst (λ z. IsWhole z d.exponent (pos q.count)) s.0 (subst (λ z. IsWhole q.spelled.coefficient z (pos q.count)) s.1 q.spelled.whole)), a.1)

    some_same : (a b : ℕ) → Some a ≡ Some b → a ≡ b
    some_same a b z = cc

    some : o ≡ Some n → (t : Tok) (rest : List Tok) → old ≡ t ∷ rest → t.kind ≡ Number → is_count t.piece.bytes ≡ true → SpellsWhole t.piece.bytes n × (n < 2 ^ 32) × (new ≡ rest)
    some s t rest e k c =
        let q = counted t rest e k c in
        let same = some_same q.0.count n (sym q.1 ∙ s) in
        (subst (SpellsWhole t.piece.bytes) same q.0.spelled, subst (λ z. z < 2 ^ 32) same q.0.small, q.2)

    none : o ≡ None → (t : Tok) (rest : List Tok) → old ≡ t ∷ rest → t.kind ≡ Number → is_count t.piece.bytes ≡ true → ⊥
    none s t rest e k c = let q = counted t rest e k c in let z = sym s ∙ q.1 in cc

count_true : (c : Bool) → numbered kinds.Count c ≡ true → c ≡ true
count_true true e = refl
count_true false e = absurd cc

count_item : (i : Item) (old new rest : List Tok) (n : ℕ) → takes kinds.Count (shape (bare i)) ≡ true → old ≡ tokens i ++ rest → TakesCount old new n → DenotesCount (bare i) n × (new ≡ rest)
count_item (tree.number p) old new rest n t e m = let a = m (tok Number p) rest e refl (count_true (is_count p.bytes) t) in (record { bytes = p.bytes; is = refl; spells = a.0; small = a.1 }, a.2)
count_item (tree.text p) old new rest n t e m = absurd cc
count_item (tree.word p) old new rest n t e m = absurd (no_word kinds.Count refl refl (is_cs_kind p.bytes) (is_direction p.bytes) t)
count_item (tree.node k f o items c) old new rest n t e m = absurd (no_node kinds.Count (λ k. refl) (keyword_of k.bytes) t)

pub count_made : (old new : List Tok) (v : ℕ) → TakesCount old new v → (x : Bare) (rest : List Tok) → Fitting kinds.Count x → Next x old rest → DenotesCount x v × (new ≡ rest)
count_made old new v m x rest f n =
    let a = count_item n.item old new rest v (ap (λ y. takes kinds.Count (shape y)) n.is ∙ f.taken) n.tokens_are m in
    (subst (λ y. DenotesCount y v) n.is a.0, a.1)

-- ---- texts

-- a sound text token is its content between marks
text_is : (p : List ℕ) (v : Text) → IsQuoted p → v.bytes ≡ undoubled false (drop 1 p) → text p ≡ text (quoted v.bytes)
text_is p v q e = ap text (q.2 ∙ ap quoted (sym (e ∙ (ap (λ l. undoubled false (drop 1 l)) q.2 ∙ undoubled-quoted q.0))))

text_item : (i : Item) (old new rest : List Tok) (v : Text) → takes kinds.Text (shape (bare i)) ≡ true → old ≡ tokens i ++ rest → TakesText old new v → DenotesText (bare i) v × (new ≡ rest)
text_item (tree.text p) old new rest v t e m = let a = m (tok Quoted p) rest e refl in (text_is p.bytes v a.0 a.1, a.2)
text_item (tree.number p) old new rest v t e m = absurd (no_number kinds.Text refl refl (is_count p.bytes) t)
text_item (tree.word p) old new rest v t e m = absurd (no_word kinds.Text refl refl (is_cs_kind p.bytes) (is_direction p.bytes) t)
text_item (tree.node k f o items c) old new rest v t e m = absurd (no_node kinds.Text (λ k. refl) (keyword_of k.bytes) t)

pub text_made : (old new : List Tok) (v : Text) → TakesText old new v → (x : Bare) (rest : List Tok) → Fitting kinds.Text x → Next x old rest → DenotesText x v × (new ≡ rest)
text_made old new v m x rest f n =
    let a = text_item n.item old new rest v (ap (λ y. takes kinds.Text (shape y)) n.is ∙ f.taken) n.tokens_are m in
    (subst (λ y. DenotesText y v) n.is a.0, a.1)

-- ---- a number or a text

code_number_item : (i : Item) (old new rest : List Tok) (d : Decimal) → next_is_number old ≡ true → takes kinds.NumberOrText (shape (bare i)) ≡ true → old ≡ tokens i ++ rest → TakesNumber old new d → DenotesNumber (bare i) d × (new ≡ rest)
code_number_item (tree.number p) old new rest d h t e m = let a = m (tok Number p) rest e refl in (record { bytes = p.bytes; is = refl; spells = a.0 }, a.1)
code_number_item (tree.text p) old new rest d h t e m = absurd (let z = sym h ∙ ap next_is_number e in cc)
code_number_item (tree.word p) old new rest d h t e m = absurd (no_word kinds.NumberOrText refl refl (is_cs_kind p.bytes) (is_direction p.bytes) t)
code_number_item (tree.node k f o items c) old new rest d h t e m = absurd (no_node kinds.NumberOrText (λ k. refl) (keyword_of k.bytes) t)

code_text_item : (i : Item) (old new rest : List Tok) (v : Text) → next_is_number old ≡ false → takes kinds.NumberOrText (shape (bare i)) ≡ true → old ≡ tokens i ++ rest → TakesText old new v → DenotesText (bare i) v × (new ≡ rest)
code_text_item (tree.text p) old new rest v h t e m = let a = m (tok Quoted p) rest e refl in (text_is p.bytes v a.0 a.1, a.2)
code_text_item (tree.number p) old new rest v h t e m = absurd (let z = sym h ∙ ap next_is_number e in cc)
code_text_item (tree.word p) old new rest v h t e m = absurd (no_word kinds.NumberOrText refl refl (is_cs_kind p.bytes) (is_direction p.bytes) t)
code_text_item (tree.node k f o items c) old new rest v h t e m = absurd (no_node kinds.NumberOrText (λ k. refl) (keyword_of k.bytes) t)

pub number_code_made : (old new : List Tok) (d : Decimal) → next_is_number old ≡ true → TakesNumber old new d → (x : Bare) (rest : List Tok) → Fitting kinds.NumberOrText x → Next x old rest → DenotesCode x (code.Number d) × (new ≡ rest)
number_code_made old new d h m x rest f n =
    let a = code_number_item n.item old new rest d h (ap (λ y. takes kinds.NumberOrText (shape y)) n.is ∙ f.taken) n.tokens_are m in
    (subst (λ y. DenotesNumber y d) n.is a.0, a.1)

pub text_code_made : (old new : List Tok) (v : Text) → next_is_number old ≡ false → TakesText old new v → (x : Bare) (rest : List Tok) → Fitting kinds.NumberOrText x → Next x old rest → DenotesCode x (code.Text v) × (new ≡ rest)
text_code_made old new v h m x rest f n =
    let a = code_text_item n.item old new rest v h (ap (λ y. takes kinds.NumberOrText (shape y)) n.is ∙ f.taken) n.tokens_are m in
    (subst (λ y. DenotesText y v) n.is a.0, a.1)

-- ---- words

abbrev pub letters : List ℕ → List ℕ
letters b = map to_ascii_lowercase b

same_bytes : (a b : List ℕ) → bytes_eq a b ≡ true → a ≡ b
same_bytes a b h = by (bytes_eq a b) (bytes_eq-Decides a b) h
  where
    by : (t : Bool) → Decides t (a ≡ b) → t ≡ true → a ≡ b
    by t d e = d.0 e

-- the value that is found has the word that was looked for, in lowercase
pub word_is : {A : Type 0} (f : A → List ℕ) (vs : List A) (l : List ℕ) (v : A) → first_word f vs l ≡ Some v → letters (f v) ≡ l
word_is f [] l v e = absurd cc
word_is f (w ∷ vs) l v e = by (bytes_eq (letters (f w)) l) refl e (word_is f vs l v)
  where
    by : (b : Bool) → bytes_eq (letters (f w)) l ≡ b → (if b then Some w else first_word f vs l) ≡ Some v → (first_word f vs l ≡ Some v → letters (f v) ≡ l) → letters (f v) ≡ l
    by true h g r = let same : w ≡ v = cc in ap (λ z. letters (f z)) (sym same) ∙ same_bytes (letters (f w)) l h
    by false h g r = r g

-- `is_listed` tells whether some value has the word, in any letter case
abbrev pub IsListed : {A : Type 0} → (List ℕ → Bool) → (A → List ℕ) → List A → Type 0
IsListed is_listed f vs = (b : List ℕ) → is_listed b ≡ is_some (first_word f vs (letters b))

pub kind_listed : IsListed is_cs_kind system_word kinds_listed
unfolding is_cs_kind
kind_listed b = refl

pub direction_listed : IsListed is_direction direction_word directions_listed
unfolding is_direction
direction_listed b = refl

-- the next token has these bytes, and the tokens after it remain
abbrev pub Passed : List Tok → List Tok → List ℕ → Type 0
Passed old new bytes = (t : Tok) (rest : List Tok) → old ≡ t ∷ rest → (t.piece.bytes ≡ bytes) × (new ≡ rest)

-- if the token that was peeked at is dropped, the tokens after it remain
pub passed : (old new : List Tok) (t : Tok) → Some t ≡ slice_get old 0 → new ≡ drop 1 old → Passed old new t.piece.bytes
passed old new t e n u rest h = let same : t ≡ u = peeked (e ∙ ap (λ (l : List Tok). slice_get l 0) h) in (ap (λ (v : Tok). v.piece.bytes) (sym same), n ∙ ap (drop 1) h)
  where
    peeked : Some t ≡ Some u → t ≡ u
    peeked g = cc

pub word_takes : {A : Type 0} (is_listed : List ℕ → Bool) (f : A → List ℕ) (vs : List A) (old new : List Tok) (bytes : List ℕ) (v : A) → Passed old new bytes → first_word f vs (letters bytes) ≡ Some v → TakesWord is_listed f old new v
word_takes is_listed f vs old new bytes v m e t rest o l = let a = m t rest o in (word_is f vs (letters bytes) v e ∙ ap letters (sym a.0), a.1)

pub word_lost : {A : Type 0} (is_listed : List ℕ → Bool) (f : A → List ℕ) (vs : List A) (old new : List Tok) (bytes : List ℕ) (v : A) → IsListed is_listed f vs → Passed old new bytes → first_word f vs (letters bytes) ≡ None → TakesWord is_listed f old new v
word_lost is_listed f vs old new bytes v h m e t rest o l =
    let listed = sym l ∙ (h t.piece.bytes ∙ (ap (λ b. is_some (first_word f vs (letters b))) (m t rest o).0 ∙ ap is_some e)) in
    absurd cc

pub word_made : {A : Type 0} (kind : Takes) (is_listed : List ℕ → Bool) (f : A → List ℕ) (old new : List Tok) (v : A) → ((i : Item) → takes kind (shape (bare i)) ≡ true → (p : Piece) × (i ≡ tree.word p) × (is_listed p.bytes ≡ true)) → TakesWord is_listed f old new v
    → (x : Bare) (rest : List Tok) → Fitting kind x → Next x old rest → DenotesWord f x v × (new ≡ rest)
word_made kind is_listed f old new v item m x rest fit n =
    let w = item n.item (ap (λ y. takes kind (shape y)) n.is ∙ fit.taken) in
    let a = m (tok Word w.0) rest (n.tokens_are ∙ ap (λ i. tokens i ++ rest) w.1) w.2 in
    (record { bytes = w.0.bytes; is = sym n.is ∙ ap bare w.1; spells = a.0 }, a.1)

kind_true : (c d : Bool) → worded kinds.CsKind c d ≡ true → c ≡ true
kind_true true d e = refl
kind_true false true e = absurd cc
kind_true false false e = absurd cc

direction_true : (c d : Bool) → worded kinds.Direction c d ≡ true → d ≡ true
direction_true true true e = refl
direction_true true false e = absurd cc
direction_true false true e = refl
direction_true false false e = absurd cc

pub kind_item : (i : Item) → takes kinds.CsKind (shape (bare i)) ≡ true → (p : Piece) × (i ≡ tree.word p) × (is_cs_kind p.bytes ≡ true)
kind_item (tree.word p) t = (p, refl, kind_true (is_cs_kind p.bytes) (is_direction p.bytes) t)
kind_item (tree.text p) t = absurd cc
kind_item (tree.number p) t = absurd (no_number kinds.CsKind refl refl (is_count p.bytes) t)
kind_item (tree.node k f o items c) t = absurd (no_node kinds.CsKind (λ k. refl) (keyword_of k.bytes) t)

pub direction_item : (i : Item) → takes kinds.Direction (shape (bare i)) ≡ true → (p : Piece) × (i ≡ tree.word p) × (is_direction p.bytes ≡ true)
direction_item (tree.word p) t = (p, refl, direction_true (is_cs_kind p.bytes) (is_direction p.bytes) t)
direction_item (tree.text p) t = absurd cc
direction_item (tree.number p) t = absurd (no_number kinds.Direction refl refl (is_count p.bytes) t)
direction_item (tree.node k f o items c) t = absurd (no_node kinds.Direction (λ k. refl) (keyword_of k.bytes) t)

pub text_result : {E : Type 0} (old new : List Tok) (r : Result Text E) → IfOk r (TakesText old new) → (x : Bare) (rest : List Tok) → Fitting kinds.Text x → Next x old rest → IfOk r (λ v. DenotesText x v × (new ≡ rest))
text_result old new (Ok v) m x rest f n = text_made old new v m x rest f n
text_result old new (Err e) m x rest f n = tt
