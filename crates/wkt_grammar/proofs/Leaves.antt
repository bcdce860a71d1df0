-- The laws of texts, numbers and words.
use Rattle.std.proofs.Common.{◌≡◌, ℕ, ◌<◌, ◌^◌, Bool, true, false, List, [], ◌∷◌, ◌++◌, map, drop, decimal, Some, refl, sym, ap, ◌∙◌, subst, ⊎_elim, arith}
use Rattle.std.specs.Prelude.{if◌then◌else◌, cond}
use Rattle.std.specs.List.{flat_map}
use Rattle.std.specs.Option.{is_some}
use Rattle.std.specs.Char.{to_ascii_lowercase}
use Rattle.std.proofs.lemmas.Bool.Decides.{nat_tests}
use Rattle.std.proofs.lemmas.Option.{same_Some}
use Rattle.std.proofs.Props.{props}
use mathlib.Core.HLevel.{is_prop→PathP}
use Rattle.crs_number.specs.Numeral.{Spells}
use Rattle.crs_number.specs.Canonical.{canonical}
use Rattle.crs_number.specs.Count.{SpellsWhole, is_count}
use Rattle.crs_number.specs.declared.decimals.Decimal.{Decimal}
use Rattle.crs_number.proofs.CountLemmas.{count_to, count_once, decimal_spells}
use Rattle.crs_number.proofs.Once.{spells_once}
use Rattle.crs_number.proofs.Spelled.{canonical_spells}
use Rattle.crs_number.proofs.Same.{same_decimal}
use Rattle.crs_part.specs.declared.text.Text.{Text}
use Rattle.crs_part.specs.declared.identifiers.NumberOrText.{NumberOrText}
use Rattle.crs_part.specs.declared.identifiers.NumberOrText.TheVariants as code
use Rattle.crs_part.specs.declared.systems.Direction.{Direction}
use Rattle.crs_part.specs.declared.systems.Direction.TheVariants as to
use Rattle.crs_part.specs.declared.systems.SystemKind.{SystemKind}
use Rattle.crs_part.specs.declared.systems.SystemKind.TheVariants as kind
use Rattle.crs_part.proofs.Texts.{same_text}
use Rattle.wkt_tree.specs.Tokens.{quoted, doubled, is_mark}
use Rattle.wkt_tree.proofs.Lexemes.{by_mark, body-mark, body-plain}
use Rattle.wkt_grammar.specs.declared.table.Takes.{Takes}
use Rattle.wkt_grammar.specs.declared.table.Takes.TheVariants as kinds
use Rattle.wkt_grammar.specs.declared.table.Argument.{Argument}
use Rattle.wkt_grammar.specs.declared.table.Argument.TheVariants as arguments
use Rattle.wkt_grammar.specs.Rows.{takes}
use Rattle.wkt_grammar.specs.Words.{is_cs_kind, is_direction}
use Rattle.wkt_grammar.specs.Slots.{number_argument, word_argument}
use Rattle.wkt_grammar.specs.Bare.{Bare, text, number, word}
use Rattle.wkt_grammar.specs.SecondEdition.{Fitting}
use Rattle.wkt_grammar.specs.Leaves.{undoubled, SameWord, DenotesText, DenotesNumber, DenotesCount, DenotesWord}
use Rattle.crs_part.specs.Words.{system_word, direction_word, first_word, kinds_listed, directions_listed}
use Rattle.wkt_grammar.specs.Denotes.{DenotesCode}
use Rattle.wkt_grammar.specs.Trees.{text_tree, number_tree, count_tree, kind_tree, direction_tree, code_tree}
use Rattle.wkt_grammar.proofs.NodeRows.{Law}

-- ---- texts

not_mark : (b : ℕ) → (b ≡ 34 → ⊥) → is_mark b ≡ false
not_mark b n = grind (arith, nat_tests)

undoubled_plain : (b : ℕ) (bs : List ℕ) → (b ≡ 34 → ⊥) → undoubled false (b ∷ bs) ≡ b ∷ undoubled false bs
undoubled_plain b bs n = rw (not_mark b n) refl

pub undoubled-body : (c : List ℕ) → undoubled false (flat_map doubled c ++ 34 ∷ []) ≡ c
undoubled-body [] = refl
undoubled-body (b ∷ c) = ⊎_elim
    (λ m. ap (λ l. undoubled false (l ++ 34 ∷ [])) (body-mark b c m.1) ∙ (ap (λ l. 34 ∷ l) (undoubled-body c) ∙ ap (λ y. y ∷ c) (sym m.0)))
    (λ n. ap (λ l. undoubled false (l ++ 34 ∷ [])) (body-plain b c n.1) ∙ (undoubled_plain b (flat_map doubled c ++ 34 ∷ []) n.0 ∙ ap (λ l. b ∷ l) (undoubled-body c)))
    (by_mark b)

-- the text after the opening mark of a quoted text is read as its content
pub undoubled-quoted : (c : List ℕ) → undoubled false (drop 1 (quoted c)) ≡ c
undoubled-quoted c = undoubled-body c

text_injective : (a b : List ℕ) → text a ≡ text b → a ≡ b
text_injective a b e = cc

number_injective : (a b : List ℕ) → number a ≡ number b → a ≡ b
number_injective a b e = cc

word_injective : (a b : List ℕ) → word a ≡ word b → a ≡ b
word_injective a b e = cc

text_once : (x : Bare) (v w : Text) → DenotesText x v → DenotesText x w → v ≡ w
text_once x v w d e =
    let same = text_injective (quoted v.bytes) (quoted w.bytes) (sym d ∙ e) in
    same_text v w (sym (undoubled-quoted v.bytes) ∙ (ap (λ l. undoubled false (drop 1 l)) same ∙ undoubled-quoted w.bytes))

pub text_law : Law kinds.Text DenotesText text_tree
text_law = record { fits = λ x v d. subst (Fitting kinds.Text) (sym d) (record { taken = refl; sound = tt }); once = text_once; spelled = λ v. refl }

-- ---- numbers

number_taken : (t : Takes) (b : List ℕ) → takes t arguments.Number ≡ true → takes t arguments.Count ≡ true → takes t (number_argument b) ≡ true
number_taken t b p q = elim (is_count b) as (λ c. takes t (cond c arguments.Count arguments.Number) ≡ true) [ true ↦ q | false ↦ p ]

number_once : (x : Bare) (v w : Decimal) → DenotesNumber x v → DenotesNumber x w → v ≡ w
number_once x v w d e =
    let same = number_injective d.bytes e.bytes (sym d.is ∙ e.is) in
    let s = spells_once d.bytes v.coefficient w.coefficient v.exponent w.exponent d.spells (subst (λ b. Spells b w.coefficient w.exponent) (sym same) e.spells) in
    same_decimal v w s.0 s.1

pub number_law : Law kinds.Number DenotesNumber number_tree
number_law = record {
  fits = λ x v d. subst (Fitting kinds.Number) (sym d.is) (record { taken = number_taken kinds.Number d.bytes refl refl; sound = tt });
  once = number_once;
  spelled = λ v. record { bytes = canonical v.coefficient v.exponent; is = refl; spells = canonical_spells v };
}

-- a number from 0 to 2 ^ 32 - 1
pub record Small : Type 0 where
  pub value : ℕ
  pub small : value < 2 ^ 32

abbrev pub DenotesSmall : Bare → Small → Type 0
DenotesSmall x n = DenotesCount x n.value

count_taken : (b : List ℕ) (n : ℕ) → SpellsWhole b n → n < 2 ^ 32 → takes kinds.Count (number_argument b) ≡ true
count_taken b n s h = ap (λ c. takes kinds.Count (cond c arguments.Count arguments.Number)) (count_to b (record { count = n; spelled = s; small = h }))

pub same_value : (x : Bare) (n m : ℕ) → DenotesCount x n → DenotesCount x m → n ≡ m
same_value x n m d e =
    let same = number_injective d.bytes e.bytes (sym d.is ∙ e.is) in
    count_once d.bytes n m d.spells (subst (λ b. SpellsWhole b m) (sym same) e.spells)

same_small : (n m : Small) → n.value ≡ m.value → n ≡ m
same_small n m e = λ i. record { value = e i; small = is_prop→PathP (λ j. e j < 2 ^ 32) (λ j. hlevel props) n.small m.small i }

pub count_law : Law kinds.Count DenotesSmall (λ n. count_tree n.value)
count_law = record {
  fits = λ x v d. subst (Fitting kinds.Count) (sym d.is) (record { taken = count_taken d.bytes v.value d.spells d.small; sound = tt });
  once = λ x v w d e. same_small v w (same_value x v.value w.value d e);
  spelled = λ v. record { bytes = decimal v.value; is = refl; spells = decimal_spells v.value v.small; small = v.small };
}

-- ---- a number or a text

code_fits : (x : Bare) (v : NumberOrText) → DenotesCode x v → Fitting kinds.NumberOrText x
code_fits x (code.Number n) d = subst (Fitting kinds.NumberOrText) (sym d.is) (record { taken = number_taken kinds.NumberOrText d.bytes refl refl; sound = tt })
code_fits x (code.Text t) d = subst (Fitting kinds.NumberOrText) (sym d) (record { taken = refl; sound = tt })

number_no_text : (a b : List ℕ) → number a ≡ text b → ⊥
number_no_text a b e = cc

code_once : (x : Bare) (v w : NumberOrText) → DenotesCode x v → DenotesCode x w → v ≡ w
code_once x (code.Number n) (code.Number m) d e = ap code.Number (number_once x n m d e)
code_once x (code.Text t) (code.Text u) d e = ap code.Text (text_once x t u d e)
code_once x (code.Number n) (code.Text t) d e = absurd (number_no_text d.bytes (quoted t.bytes) (sym d.is ∙ e))
code_once x (code.Text t) (code.Number n) d e = absurd (number_no_text e.bytes (quoted t.bytes) (sym e.is ∙ d))

code_spelled : (v : NumberOrText) → DenotesCode (code_tree v) v
code_spelled (code.Number n) = number_law.spelled n
code_spelled (code.Text t) = refl

pub code_law : Law kinds.NumberOrText DenotesCode code_tree
code_law = record { fits = code_fits; once = code_once; spelled = code_spelled }

-- ---- words

-- a word in lowercase
abbrev small_letters : List ℕ → List ℕ
small_letters b = map to_ascii_lowercase b

abbrev kind_by : List ℕ → Bool
kind_by l = is_some (first_word system_word kinds_listed l)

abbrev direction_by : List ℕ → Bool
direction_by l = is_some (first_word direction_word directions_listed l)

abbrev word_by : List ℕ → Argument
word_by l = if kind_by l then arguments.CsKind else (if direction_by l then arguments.Direction else arguments.OtherWord)

word_is : (b : List ℕ) → word_argument b ≡ word_by (small_letters b)
unfolding is_cs_kind is_direction
word_is b = refl

same_argument : (a b : List ℕ) → SameWord a b → word_argument a ≡ word_argument b
same_argument a b e = word_is a ∙ (ap word_by e ∙ sym (word_is b))

kind_argument : (v : SystemKind) → word_argument (system_word v) ≡ arguments.CsKind
unfolding is_cs_kind is_direction
kind_argument kind.Ellipsoidal = refl
kind_argument kind.Cartesian = refl
kind_argument kind.Spherical = refl
kind_argument kind.Vertical = refl

direction_argument : (v : Direction) → word_argument (direction_word v) ≡ arguments.Direction
unfolding is_cs_kind is_direction
direction_argument to.North = refl
direction_argument to.NorthNorthEast = refl
direction_argument to.NorthEast = refl
direction_argument to.EastNorthEast = refl
direction_argument to.East = refl
direction_argument to.EastSouthEast = refl
direction_argument to.SouthEast = refl
direction_argument to.SouthSouthEast = refl
direction_argument to.South = refl
direction_argument to.SouthSouthWest = refl
direction_argument to.SouthWest = refl
direction_argument to.WestSouthWest = refl
direction_argument to.West = refl
direction_argument to.WestNorthWest = refl
direction_argument to.NorthWest = refl
direction_argument to.NorthNorthWest = refl
direction_argument to.GeocentricX = refl
direction_argument to.GeocentricY = refl
direction_argument to.GeocentricZ = refl
direction_argument to.Up = refl
direction_argument to.Down = refl

kind_found : (v : SystemKind) → first_word system_word kinds_listed (small_letters (system_word v)) ≡ Some v
kind_found kind.Ellipsoidal = refl
kind_found kind.Cartesian = refl
kind_found kind.Spherical = refl
kind_found kind.Vertical = refl

direction_found : (v : Direction) → first_word direction_word directions_listed (small_letters (direction_word v)) ≡ Some v
direction_found to.North = refl
direction_found to.NorthNorthEast = refl
direction_found to.NorthEast = refl
direction_found to.EastNorthEast = refl
direction_found to.East = refl
direction_found to.EastSouthEast = refl
direction_found to.SouthEast = refl
direction_found to.SouthSouthEast = refl
direction_found to.South = refl
direction_found to.SouthSouthWest = refl
direction_found to.SouthWest = refl
direction_found to.WestSouthWest = refl
direction_found to.West = refl
direction_found to.WestNorthWest = refl
direction_found to.NorthWest = refl
direction_found to.NorthNorthWest = refl
direction_found to.GeocentricX = refl
direction_found to.GeocentricY = refl
direction_found to.GeocentricZ = refl
direction_found to.Up = refl
direction_found to.Down = refl

word_once : {A : Type 0} (f : A → List ℕ) (all : List A) → ((v : A) → first_word f all (small_letters (f v)) ≡ Some v) → (x : Bare) (v w : A) → DenotesWord f x v → DenotesWord f x w → v ≡ w
word_once f all found x v w d e =
    let same = word_injective d.bytes e.bytes (sym d.is ∙ e.is) in
    let letters = d.spells ∙ (ap small_letters same ∙ sym e.spells) in
    same_Some v w (sym (found v) ∙ (ap (first_word f all) letters ∙ found w))

pub kind_law : Law kinds.CsKind (DenotesWord system_word) kind_tree
kind_law = record {
  fits = λ x v d. subst (Fitting kinds.CsKind) (sym d.is) (record { taken = ap (takes kinds.CsKind) (sym (same_argument (system_word v) d.bytes d.spells) ∙ kind_argument v); sound = tt });
  once = word_once system_word kinds_listed kind_found;
  spelled = λ v. record { bytes = system_word v; is = refl; spells = refl };
}

pub direction_law : Law kinds.Direction (DenotesWord direction_word) direction_tree
direction_law = record {
  fits = λ x v d. subst (Fitting kinds.Direction) (sym d.is) (record { taken = ap (takes kinds.Direction) (sym (same_argument (direction_word v) d.bytes d.spells) ∙ direction_argument v); sound = tt });
  once = word_once direction_word directions_listed direction_found;
  spelled = λ v. record { bytes = direction_word v; is = refl; spells = refl };
}
