-- Texts, numbers and words that fit a slot have a value.
use Rattle.std.proofs.Common.{◌≡◌, ℕ, Bool, true, false, cond, List, Option, Some, None, refl, sym, ap, ◌∙◌}
use Rattle.std.specs.Option.{is_some}
use Rattle.std.proofs.lemmas.Str.{is_utf8-from_IsUtf8}
use Rattle.crs_number.specs.Count.{is_count}
use Rattle.crs_number.specs.declared.decimals.Decimal.{Decimal}
use Rattle.crs_number.proofs.CountLemmas.{count_from}
use Rattle.crs_part.specs.declared.text.Text.{Text}
use Rattle.crs_part.specs.declared.identifiers.NumberOrText.{NumberOrText}
use Rattle.crs_part.specs.declared.identifiers.NumberOrText.TheVariants as code
use Rattle.wkt_tree.specs.Tokens.{IsNumber}
use Rattle.wkt_grammar.specs.declared.table.Argument.TheVariants as arguments
use Rattle.wkt_grammar.specs.declared.table.Keyword.{Keyword}
use Rattle.wkt_grammar.specs.declared.table.Takes.{Takes}
use Rattle.wkt_grammar.specs.declared.table.Takes.TheVariants as kinds
use Rattle.wkt_grammar.specs.Rows.{takes}
use Rattle.wkt_grammar.specs.Words.{keyword_of, is_cs_kind, is_direction}
use Rattle.wkt_grammar.specs.Bare.{Bare, text, number, word, node}
use Rattle.wkt_grammar.specs.Slots.{argument_by}
use Rattle.wkt_write.specs.WellFormed.{IsText}
use Rattle.wkt_grammar.specs.SecondEdition.{Fitting}
use Rattle.wkt_grammar.specs.Leaves.{DenotesText, DenotesNumber, DenotesWord}
use Rattle.crs_part.specs.Words.{system_word, direction_word, first_word, kinds_listed, directions_listed}
use Rattle.wkt_grammar.specs.Denotes.{DenotesCode}
use Rattle.wkt_grammar.proofs.Leaves.{DenotesSmall, Small}
use Rattle.wkt_build.proofs.LeafLemmas.{letters, word_is, kind_listed, direction_listed}
use Rattle.wkt_crs.proofs.Values.{IsRead, Has}

-- ---- arguments that a slot does not take

abbrev numbered : Takes → Bool → Bool
numbered t c = takes t (cond c arguments.Count arguments.Number)

abbrev worded : Takes → Bool → Bool → Bool
worded t c d = takes t (cond c arguments.CsKind (cond d arguments.Direction arguments.OtherWord))

no_node : {A : Type 0} (t : Takes) → ((k : Keyword) → takes t (arguments.Node k) ≡ false) → (o : Option Keyword) → takes t (argument_by o) ≡ true → A
no_node t h None e = absurd cc
no_node t h (Some k) e = let z = sym (h k) ∙ e in absurd cc

no_word : {A : Type 0} (t : Takes) → takes t arguments.CsKind ≡ false → takes t arguments.Direction ≡ false → (c d : Bool) → worded t c d ≡ true → A
no_word t p q true d e = let z = sym p ∙ e in absurd cc
no_word t p q false true e = let z = sym q ∙ e in absurd cc
no_word t p q false false e = absurd cc

no_number : {A : Type 0} (t : Takes) → takes t arguments.Count ≡ false → takes t arguments.Number ≡ false → (c : Bool) → numbered t c ≡ true → A
no_number t p q true e = let z = sym p ∙ e in absurd cc
no_number t p q false e = let z = sym q ∙ e in absurd cc

-- ---- texts and numbers

text_of : (b : List ℕ) → IsText b → (v : Text) × DenotesText (text b) v
text_of b h = (record { bytes = h.content; utf8 = is_utf8-from_IsUtf8 h.content h.utf8 }, ap text h.is)

number_of : (b : List ℕ) → IsNumber b → (v : Decimal) × DenotesNumber (number b) v
number_of b h = (h.0, record { bytes = b; is = refl; spells = h.1 })

text_in : (x : Bare) → IsRead x → Fitting kinds.Text x → (v : Text) × DenotesText x v
text_in (text b) r f = text_of b r
text_in (number b) r f = no_number kinds.Text refl refl (is_count b) f.taken
text_in (word b) r f = no_word kinds.Text refl refl (is_cs_kind b) (is_direction b) f.taken
text_in (node k xs) r f = no_node kinds.Text (λ k. refl) (keyword_of k) f.taken

pub text_has : Has kinds.Text DenotesText
text_has = record { of = text_in }

number_in : (x : Bare) → IsRead x → Fitting kinds.Number x → (v : Decimal) × DenotesNumber x v
number_in (text b) r f = let e = f.taken in absurd cc
number_in (number b) r f = number_of b r
number_in (word b) r f = no_word kinds.Number refl refl (is_cs_kind b) (is_direction b) f.taken
number_in (node k xs) r f = no_node kinds.Number (λ k. refl) (keyword_of k) f.taken

pub number_has : Has kinds.Number DenotesNumber
number_has = record { of = number_in }

code_in : (x : Bare) → IsRead x → Fitting kinds.NumberOrText x → (v : NumberOrText) × DenotesCode x v
code_in (text b) r f = let v = text_of b r in (code.Text v.0, v.1)
code_in (number b) r f = let v = number_of b r in (code.Number v.0, v.1)
code_in (word b) r f = no_word kinds.NumberOrText refl refl (is_cs_kind b) (is_direction b) f.taken
code_in (node k xs) r f = no_node kinds.NumberOrText (λ k. refl) (keyword_of k) f.taken

pub code_has : Has kinds.NumberOrText DenotesCode
code_has = record { of = code_in }

count_true : (c : Bool) → numbered kinds.Count c ≡ true → c ≡ true
count_true true e = refl
count_true false e = absurd cc

count_in : (x : Bare) → IsRead x → Fitting kinds.Count x → (v : Small) × DenotesSmall x v
count_in (text b) r f = let e = f.taken in absurd cc
count_in (number b) r f = let c = count_from b (count_true (is_count b) f.taken) in (record { value = c.count; small = c.small }, record { bytes = b; is = refl; spells = c.spelled; small = c.small })
count_in (word b) r f = no_word kinds.Count refl refl (is_cs_kind b) (is_direction b) f.taken
count_in (node k xs) r f = no_node kinds.Count (λ k. refl) (keyword_of k) f.taken

pub count_has : Has kinds.Count DenotesSmall
count_has = record { of = count_in }

-- ---- words

-- a listed word is the word of some value
word_of : {A : Type 0} (f : A → List ℕ) (vs : List A) (b : List ℕ) → is_some (first_word f vs (letters b)) ≡ true → (v : A) × DenotesWord f (word b) v
word_of {A} f vs b h = by (first_word f vs (letters b)) refl h
  where
    by : (o : Option A) → first_word f vs (letters b) ≡ o → is_some o ≡ true → (v : A) × DenotesWord f (word b) v
    by None e h = absurd cc
    by (Some v) e h = (v, record { bytes = b; is = refl; spells = word_is f vs (letters b) v e })

kind_true : (c d : Bool) → worded kinds.CsKind c d ≡ true → c ≡ true
kind_true true d e = refl
kind_true false true e = absurd cc
kind_true false false e = absurd cc

direction_true : (c d : Bool) → worded kinds.Direction c d ≡ true → d ≡ true
direction_true true true e = refl
direction_true true false e = absurd cc
direction_true false true e = refl
direction_true false false e = absurd cc

kind_in : (x : Bare) → IsRead x → Fitting kinds.CsKind x → (v : _) × DenotesWord system_word x v
kind_in (text b) r f = let e = f.taken in absurd cc
kind_in (number b) r f = no_number kinds.CsKind refl refl (is_count b) f.taken
kind_in (word b) r f = word_of system_word kinds_listed b (sym (kind_listed b) ∙ kind_true (is_cs_kind b) (is_direction b) f.taken)
kind_in (node k xs) r f = no_node kinds.CsKind (λ k. refl) (keyword_of k) f.taken

pub kind_has : Has kinds.CsKind (DenotesWord system_word)
kind_has = record { of = kind_in }

direction_in : (x : Bare) → IsRead x → Fitting kinds.Direction x → (v : _) × DenotesWord direction_word x v
direction_in (text b) r f = let e = f.taken in absurd cc
direction_in (number b) r f = no_number kinds.Direction refl refl (is_count b) f.taken
direction_in (word b) r f = word_of direction_word directions_listed b (sym (direction_listed b) ∙ direction_true (is_cs_kind b) (is_direction b) f.taken)
direction_in (node k xs) r f = no_node kinds.Direction (λ k. refl) (keyword_of k) f.taken

pub direction_has : Has kinds.Direction (DenotesWord direction_word)
direction_has = record { of = direction_in }
