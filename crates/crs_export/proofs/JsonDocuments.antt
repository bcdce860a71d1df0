-- A document of JSON from its lexemes.
use Rattle.std.proofs.Common.{◌≡◌, ℕ, ◌≤◌, Bool, true, false, List, [], ◌∷◌, ◌++◌, codes, cond, Some, option_and_then, refl, sym, ap, ap₂, ◌∙◌, append_assoc, append-nil, subst}
use Rattle.json.specs.Token.{Token}
use Rattle.json.specs.Word.{ends_word, word}
use Rattle.json.specs.Lex.{Lexeme, token, comma, colon, lex, between, Place, fresh, after_value, after_comma, begins_colon, punctuate}
use Rattle.json.specs.Json.{Json, null, boolean, number, string, array, object, Items, no_items, item, Members, no_members, member, value, if_last, max_depth, document}
use Rattle.json.specs.Tree.{json_tokens, items_tokens, members_tokens, depth}
use Rattle.json.specs.Print.{IsNumber}
use Rattle.json.proofs.Printed.Numbers.{lex-number, in_word-ended}
use Rattle.json.proofs.Printed.Trees.{value-json_tokens}
use Rattle.crs_export.specs.JsonQuotes.{quoted}
use Rattle.crs_export.proofs.JsonLemmas.{lex_quoted}

-- ---- the lexemes of a value

abbrev mutual
  pub value_lexemes : Json → List Lexeme
  value_lexemes null = token Token.null ∷ []
  value_lexemes (boolean b) = token (Token.boolean b) ∷ []
  value_lexemes (number s) = token (Token.number s) ∷ []
  value_lexemes (string s) = token (Token.string s) ∷ []
  value_lexemes (array js) = token Token.begin_array ∷ items_lexemes js
  value_lexemes (object ms) = token Token.begin_object ∷ members_lexemes ms

  -- with the closing bracket
  pub items_lexemes : Items → List Lexeme
  items_lexemes no_items = token Token.end_array ∷ []
  items_lexemes (item j js) = value_lexemes j ++ more_items js

  -- items after others
  pub more_items : Items → List Lexeme
  more_items no_items = token Token.end_array ∷ []
  more_items (item j js) = comma ∷ (value_lexemes j ++ more_items js)

  pub members_lexemes : Members → List Lexeme
  members_lexemes no_members = token Token.end_object ∷ []
  members_lexemes (member k j ms) = token (Token.string k) ∷ colon ∷ (value_lexemes j ++ more_members ms)

  pub more_members : Members → List Lexeme
  more_members no_members = token Token.end_object ∷ []
  more_members (member k j ms) = comma ∷ token (Token.string k) ∷ colon ∷ (value_lexemes j ++ more_members ms)

-- ---- their tokens

no_colon_items : (js : Items) (rest : List Lexeme) → begins_colon (more_items js ++ rest) ≡ false
no_colon_items no_items rest = refl
no_colon_items (item j js) rest = refl

no_colon_members : (ms : Members) (rest : List Lexeme) → begins_colon (more_members ms ++ rest) ≡ false
no_colon_members no_members rest = refl
no_colon_members (member k j ms) rest = refl

-- a place where a value may begin
abbrev begin : Bool → Place
begin false = fresh
begin true = after_comma

mutual
  unfolding punctuate

  punctuate_value : (j : Json) (c : Bool) (rest : List Lexeme) → begins_colon rest ≡ false → punctuate (begin c) (value_lexemes j ++ rest) ≡ json_tokens j ++ punctuate after_value rest
  punctuate_value null false rest h = refl
  punctuate_value null true rest h = refl
  punctuate_value (boolean b) false rest h = refl
  punctuate_value (boolean b) true rest h = refl
  punctuate_value (number s) false rest h = refl
  punctuate_value (number s) true rest h = refl
  punctuate_value (string s) false rest h = rw h refl
  punctuate_value (string s) true rest h = rw h refl
  punctuate_value (array js) false rest h = ap (λ ts. Token.begin_array ∷ ts) (punctuate_items js rest)
  punctuate_value (array js) true rest h = ap (λ ts. Token.begin_array ∷ ts) (punctuate_items js rest)
  punctuate_value (object ms) false rest h = ap (λ ts. Token.begin_object ∷ ts) (punctuate_members ms rest)
  punctuate_value (object ms) true rest h = ap (λ ts. Token.begin_object ∷ ts) (punctuate_members ms rest)

  punctuate_items : (js : Items) (rest : List Lexeme) → punctuate fresh (items_lexemes js ++ rest) ≡ items_tokens js ++ punctuate after_value rest
  punctuate_items no_items rest = refl
  punctuate_items (item j js) rest =
      ap (punctuate fresh) (append_assoc (value_lexemes j) (more_items js) rest)
      ∙ punctuate_value j false (more_items js ++ rest) (no_colon_items js rest)
      ∙ ap (λ ts. json_tokens j ++ ts) (punctuate_more_items js rest) ∙ sym (append_assoc (json_tokens j) (items_tokens js) (punctuate after_value rest))

  punctuate_more_items : (js : Items) (rest : List Lexeme) → punctuate after_value (more_items js ++ rest) ≡ items_tokens js ++ punctuate after_value rest
  punctuate_more_items no_items rest = refl
  punctuate_more_items (item j js) rest =
      ap (punctuate after_comma) (append_assoc (value_lexemes j) (more_items js) rest)
      ∙ punctuate_value j true (more_items js ++ rest) (no_colon_items js rest)
      ∙ ap (λ ts. json_tokens j ++ ts) (punctuate_more_items js rest) ∙ sym (append_assoc (json_tokens j) (items_tokens js) (punctuate after_value rest))

  punctuate_members : (ms : Members) (rest : List Lexeme) → punctuate fresh (members_lexemes ms ++ rest) ≡ members_tokens ms ++ punctuate after_value rest
  punctuate_members no_members rest = refl
  punctuate_members (member k j ms) rest =
      ap (λ ts. Token.key k ∷ ts)
      (ap (punctuate fresh) (append_assoc (value_lexemes j) (more_members ms) rest)
      ∙ punctuate_value j false (more_members ms ++ rest) (no_colon_members ms rest)
      ∙ ap (λ ts. json_tokens j ++ ts) (punctuate_more_members ms rest) ∙ sym (append_assoc (json_tokens j) (members_tokens ms) (punctuate after_value rest)))

  punctuate_more_members : (ms : Members) (rest : List Lexeme) → punctuate after_value (more_members ms ++ rest) ≡ members_tokens ms ++ punctuate after_value rest
  punctuate_more_members no_members rest = refl
  punctuate_more_members (member k j ms) rest =
      ap (λ ts. Token.key k ∷ ts)
      (ap (punctuate fresh) (append_assoc (value_lexemes j) (more_members ms) rest)
      ∙ punctuate_value j false (more_members ms ++ rest) (no_colon_members ms rest)
      ∙ ap (λ ts. json_tokens j ++ ts) (punctuate_more_members ms rest) ∙ sym (append_assoc (json_tokens j) (members_tokens ms) (punctuate after_value rest)))

-- ---- bytes and their lexemes

-- the bytes are these lexemes, whatever follows them
pub record Lexes (bytes : List ℕ) (ls : List Lexeme) : Type 0 where
  pub is : (r : List ℕ) → lex between (bytes ++ r) ≡ ls ++ lex between r

-- the same, if what follows them ends a word
pub record LexesWord (bytes : List ℕ) (ls : List Lexeme) : Type 0 where
  pub is : (r : List ℕ) → ends_word r ≡ true → lex between (bytes ++ r) ≡ ls ++ lex between r

pub lexes_nothing : Lexes [] []
lexes_nothing = record { is = λ r. refl }

pub lexes_both : {a b : List ℕ} {ls ms : List Lexeme} → Lexes a ls → Lexes b ms → Lexes (a ++ b) (ls ++ ms)
lexes_both {a = a} {b = b} {ls = ls} {ms = ms} first second = record {
  is = λ r. ap (lex between) (append_assoc a b r) ∙ first.is (b ++ r) ∙ ap (λ t. ls ++ t) (second.is r) ∙ sym (append_assoc ls ms (lex between r));
}

-- a word before a byte that ends it
pub lexes_word : {a b : List ℕ} {ls ms : List Lexeme} (c : ℕ) → ends_word (c ∷ []) ≡ true → LexesWord a ls → Lexes (c ∷ b) ms → Lexes (a ++ c ∷ b) (ls ++ ms)
lexes_word {a = a} {b = b} {ls = ls} {ms = ms} c ends first second = record {
  is = λ r. ap (lex between) (append_assoc a (c ∷ b) r) ∙ first.is (c ∷ (b ++ r)) ends ∙ ap (λ t. ls ++ t) (second.is r) ∙ sym (append_assoc ls ms (lex between r));
}

-- bytes before a word
pub lexes_then : {a b : List ℕ} {ls ms : List Lexeme} → Lexes a ls → LexesWord b ms → LexesWord (a ++ b) (ls ++ ms)
lexes_then {a = a} {b = b} {ls = ls} {ms = ms} first second = record {
  is = λ r ends. ap (lex between) (append_assoc a b r) ∙ first.is (b ++ r) ∙ ap (λ t. ls ++ t) (second.is r ends) ∙ sym (append_assoc ls ms (lex between r));
}

pub lexes_as_word : {a : List ℕ} {ls : List Lexeme} → Lexes a ls → LexesWord a ls
lexes_as_word lexes = record { is = λ r ends. lexes.is r }

-- the same lexemes, or the same bytes, in another form
pub lexes_as : {a : List ℕ} {ls : List Lexeme} → Lexes a ls → (ms : List Lexeme) → ls ≡ ms → Lexes a ms
lexes_as {a = a} lexes ms e = subst (λ l. Lexes a l) e lexes

pub lexes_from : {a : List ℕ} {ls : List Lexeme} → Lexes a ls → (b : List ℕ) → a ≡ b → Lexes b ls
lexes_from {ls = ls} lexes b e = subst (λ l. Lexes l ls) e lexes

pub lexes_null : LexesWord (codes "null") (token Token.null ∷ [])
unfolding lex word
lexes_null = record { is = λ r ends. ap₂ (λ b l. token (cond b Token.null Token.bad) ∷ l) ends (in_word-ended r ends) }

pub lexes_text : (text : List ℕ) → Lexes (quoted text) (token (Token.string text) ∷ [])
lexes_text text = record { is = lex_quoted text }

pub lexes_number : (numeral : List ℕ) → IsNumber numeral → LexesWord numeral (token (Token.number numeral) ∷ [])
lexes_number numeral is = record { is = λ r ends. lex-number numeral r is ends }

-- bytes with the lexemes of a value are this value
pub document_is : (text : List ℕ) (j : Json) → Lexes text (value_lexemes j) → depth j ≤ max_depth → document text ≡ Some j
unfolding lex punctuate
document_is text j lexes shallow =
    ap (λ l. option_and_then (λ p. if_last p.0 p.1) (value max_depth l))
    (ap (λ t. punctuate fresh (lex between t)) (sym (append-nil text)) ∙ ap (punctuate fresh) (lexes.is []) ∙ punctuate_value j false [] refl)
    ∙ ap (option_and_then (λ p. if_last p.0 p.1)) (value-json_tokens j max_depth [] shallow)
