-- A quoted text of JSON is read as the text.
use Rattle.std.proofs.Common.{◌≡◌, ℕ, ◌+◌, ◌*◌, ◌-◌, ◌==◌, nat_lt, Bool, true, false, cond, List, [], ◌∷◌, ◌++◌, Some, if◌then◌else◌, refl, sym, ap, ap₂, ◌∙◌, arith, append_assoc, append-nil, option_and_then, subst}
use Rattle.std.proofs.lemmas.Bool.Decides.{Decides-eqb, nat_tests}
use Rattle.std.specs.Char.{is_digit, digit_value}
use lib.Utf8.{encode}
use Rattle.json.specs.Text.{content, plain, prepend, code_unit, short_escape, is_high_surrogate, is_low_surrogate}
use Rattle.json.specs.Lex.{Lexeme, Mode, lex, lex_byte, between, in_string, token, string_token, operator, space, other, fresh, punctuate}
use Rattle.json.specs.Token.{string}
use Rattle.json.specs.Word.{is_operator, is_space}
use Rattle.json.specs.Json.{document, value, if_last, max_depth, string as a_string}
use Rattle.crs_export.specs.JsonQuotes.{hex_digit, escaped_byte, escaped, quoted}

-- ---- hexadecimal digits

no_mark : (n : ℕ) → nat_lt n 16 ≡ true → (hex_digit n == 34) ≡ false
no_mark n h = grind (arith, nat_tests)

no_backslash : (n : ℕ) → nat_lt n 16 ≡ true → (hex_digit n == 92) ≡ false
no_backslash n h = grind (arith, nat_tests)

less : (b : ℕ) → nat_lt b 32 ≡ true → nat_lt (b - 16) 16 ≡ true
less b h = grind (arith, nat_tests)

-- ---- escaped bytes

abbrev written : ℕ → Bool → List ℕ
written b s = 92 ∷ 117 ∷ 48 ∷ 48 ∷ (if s then 48 ∷ hex_digit b ∷ [] else 49 ∷ hex_digit (b - 16) ∷ [])

-- the bytes that a byte is escaped to, by the results of the tests on it
abbrev picked : ℕ → Bool → Bool → Bool → Bool → List ℕ
picked b t u v s = if t then 92 ∷ 34 ∷ [] else (if u then 92 ∷ 92 ∷ [] else (if v then written b s else b ∷ []))

-- ---- how they are read

-- what the two readers make of these bytes, which stand for a byte, before any others
record Reads (bytes : List ℕ) (b : ℕ) : Type 0 where
  content : (r : List ℕ) → content plain (bytes ++ r) ≡ prepend (b ∷ []) (content plain r)
  lexed : (r : List ℕ) → lex in_string (bytes ++ r) ≡ lex in_string r

-- a byte that is escaped by a backslash before it
backslashed : (b n : ℕ) → (b == n) ≡ true → Reads (92 ∷ n ∷ []) n → Reads (92 ∷ n ∷ []) b
backslashed b n e it = subst (λ c. Reads (92 ∷ n ∷ []) c) (sym ((Decides-eqb b n).0 e)) it

a_digit : (n : ℕ) → nat_lt n 16 ≡ true → (is_digit (hex_digit n) 16 ≡ true) × (digit_value (hex_digit n) ≡ n)
a_digit n h = (grind (arith, nat_tests), grind (arith, nat_tests))

unit_of : (a b m n : ℕ) → (is_digit a 16 ≡ true) × (digit_value a ≡ m) → (is_digit b 16 ≡ true) × (digit_value b ≡ n) → code_unit 48 48 a b ≡ Some (m * 16 + n)
unfolding code_unit
unit_of a b m n first second = rw (first.0, second.0, first.1, second.1) (ap Some (omega arith))

stays_within : (o s : Bool) (x : ℕ) (r : List ℕ) (k : Mode → List Lexeme) → lex_byte in_string (cond o operator (cond s space other)) x r k ≡ k in_string
stays_within true s x r k = refl
stays_within false true x r k = refl
stays_within false false x r k = refl

-- the lexer passes over a byte that is no quotation mark and no backslash
passed : (x : ℕ) (r : List ℕ) → (x == 34) ≡ false → (x == 92) ≡ false → lex in_string (x ∷ r) ≡ lex in_string r
unfolding lex
passed x r q b = rw (q, b) (stays_within (is_operator x) (is_space x) x r (λ m. lex m r))

no_surrogate : (b : ℕ) → nat_lt b 32 ≡ true → (is_high_surrogate b ≡ false) × (is_low_surrogate b ≡ false) × (nat_lt b 128 ≡ true)
no_surrogate b h = (grind (arith, nat_tests), grind (arith, nat_tests), grind (arith, nat_tests))

-- a control character that is written by its number
numbered : (b a n : ℕ) → nat_lt b 32 ≡ true → nat_lt n 16 ≡ true → code_unit 48 48 a (hex_digit n) ≡ Some b → (a == 34) ≡ false → (a == 92) ≡ false → Reads (92 ∷ 117 ∷ 48 ∷ 48 ∷ a ∷ hex_digit n ∷ []) b
unfolding content lex short_escape encode
numbered b a n small digit unit q k = record {
  content = λ r. let no = no_surrogate b small in rw (unit, no.0, no.1, no.2) refl;
  lexed = λ r. passed a (hex_digit n ∷ r) q k ∙ passed (hex_digit n) r (no_mark n digit) (no_backslash n digit);
}

itself : (b : ℕ) → (b == 34) ≡ false → (b == 92) ≡ false → nat_lt b 32 ≡ false → Reads (b ∷ []) b
unfolding content
itself b q k v = record { content = λ r. rw (q, k, v) refl; lexed = λ r. passed b r q k }

by_number : (b : ℕ) (s : Bool) → nat_lt b 32 ≡ true → nat_lt b 16 ≡ s → Reads (written b s) b
by_number b true v s =
    let is : 0 * 16 + b ≡ b = omega arith in
    numbered b 48 b v s (unit_of 48 (hex_digit b) 0 b (a_digit 0 refl) (a_digit b s) ∙ ap Some is) refl refl
by_number b false v s =
    let is : 1 * 16 + (b - 16) ≡ b = grind (arith, nat_tests) in
    numbered b 49 (b - 16) v (less b v) (unit_of 49 (hex_digit (b - 16)) 1 (b - 16) (a_digit 1 refl) (a_digit (b - 16) (less b v)) ∙ ap Some is) refl refl

quotation_mark : Reads (92 ∷ 34 ∷ []) 34
unfolding content lex short_escape
quotation_mark = record { content = λ r. refl; lexed = λ r. refl }

backslash : Reads (92 ∷ 92 ∷ []) 92
unfolding content lex short_escape
backslash = record { content = λ r. refl; lexed = λ r. refl }

reads : (b : ℕ) (t u v s : Bool) → (b == 34) ≡ t → (b == 92) ≡ u → nat_lt b 32 ≡ v → nat_lt b 16 ≡ s → Reads (picked b t u v s) b
reads b true u v s e _ _ _ = backslashed b 34 e quotation_mark
reads b false true v s _ e _ _ = backslashed b 92 e backslash
reads b false false true s _ _ v s' = by_number b s v s'
reads b false false false s t u v _ = itself b t u v

each_reads : (b : ℕ) → Reads (escaped_byte b) b
each_reads b = reads b _ _ _ _ refl refl refl refl

content_back : (text r : List ℕ) → content plain (escaped text ++ 34 ∷ r) ≡ Some text
unfolding content
content_back [] r = refl
content_back (b ∷ text) r =
    ap (content plain) (append_assoc (escaped_byte b) (escaped text) (34 ∷ r)) ∙ (each_reads b).content _ ∙ ap (prepend (b ∷ [])) (content_back text r)

lexed_back : (text r : List ℕ) → lex in_string (escaped text ++ 34 ∷ r) ≡ lex between r
unfolding lex
lexed_back [] r = refl
lexed_back (b ∷ text) r = ap (lex in_string) (append_assoc (escaped_byte b) (escaped text) (34 ∷ r)) ∙ (each_reads b).lexed _ ∙ lexed_back text r

-- a quoted text is one lexeme
pub lex_quoted : (text r : List ℕ) → lex between (quoted text ++ r) ≡ token (string text) ∷ lex between r
unfolding lex
lex_quoted text r =
    let whole = append_assoc (escaped text) (34 ∷ []) r in
    ap (λ l. lex between (34 ∷ l)) whole ∙ ap₂ (λ o l. token (string_token o) ∷ l) (content_back text r) (lexed_back text r)

pub document_back : (text : List ℕ) → document (quoted text) ≡ Some (a_string text)
unfolding lex punctuate value
document_back text = ap (λ l. option_and_then (λ p. if_last p.0 p.1) (value max_depth (punctuate fresh l))) (ap (lex between) (sym (append-nil (quoted text))) ∙ lex_quoted text [])
