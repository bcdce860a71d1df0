-- No character of a cell is hidden.
use Rattle.std.proofs.Common.{◌≡◌, ℕ, zero, suc, ◌-◌, Bool, true, false, not, nat_lt, List, [], ◌∷◌, ◌++◌, length, take, IsUtf8, refl, ap, ◌∙◌, subst, arith}
use Rattle.std.specs.List.{list_all}
use Rattle.std.specs.Str.{chars}
use Rattle.std.specs.Str.Lossy.{utf8_lossy}
use Rattle.std.proofs.lemmas.List.Folds.{list_all-append}
use Rattle.std.proofs.lemmas.Str.{IsUtf8-nil, IsUtf8-append, IsUtf8-encode, scalars-chars, chars-append, chars-nil, encode_ascii}
use Rattle.std.proofs.lemmas.Bool.{and_parts, and_from}
use Rattle.std.proofs.Math.Bool.{or-not_self}
use lib.Utf8.{scalar, scalars, encode}
use Rattle.text_hidden.specs.Set.{is_hidden}
use Rattle.text_hidden.specs.Marks.{Marks, hides_nothing, shown_all}
use Rattle.text_hidden.proofs.MarkLemmas.{none_hidden, shown_utf8}
use Rattle.csv_table.specs.Marks.{most, ellipsis_if, marked}
use Rattle.csv_table.specs.Cells.{width, blanks, cell}
use Rattle.csv_table.proofs.LossyLemmas.{lossy}

-- a text without a hidden character
record Clear (text : List ℕ) : Type 0 where
  utf8 : IsUtf8 text
  none : hides_nothing text ≡ true

-- a text after another one
next : (xs ys : List ℕ) → Clear xs → Clear ys → Clear (xs ++ ys)
next xs ys x y = record {
  utf8 = IsUtf8-append xs ys x.utf8 y.utf8;
  none = ap (list_all (λ c. not (is_hidden c))) (chars-append xs ys x.utf8)
      ∙ list_all-append (λ c. not (is_hidden c)) (chars xs) (chars ys)
      ∙ and_from (hides_nothing xs) (hides_nothing ys) x.none y.none;
}

empty : Clear []
empty = record { utf8 = IsUtf8-nil; none = ap (list_all (λ c. not (is_hidden c))) chars-nil }

-- ---- blanks, and the ellipsis

chars_blank : chars (32 ∷ []) ≡ 32 ∷ []
unfolding chars
chars_blank = refl

blank : Clear (32 ∷ [])
blank = record { utf8 = subst IsUtf8 (encode_ascii 32 (omega arith)) (IsUtf8-encode 32 refl); none = ap (list_all (λ c. not (is_hidden c))) chars_blank }

all_blanks : (n : ℕ) → Clear (blanks n)
all_blanks zero = empty
all_blanks (suc n) = next (32 ∷ []) (blanks n) blank (all_blanks n)

ellipsis_is : encode 0x2026 ≡ 226 ∷ 128 ∷ 166 ∷ []
unfolding encode
ellipsis_is = refl

chars_ellipsis : chars (226 ∷ 128 ∷ 166 ∷ []) ≡ 0x2026 ∷ []
unfolding chars
chars_ellipsis = refl

ellipsis : Clear (226 ∷ 128 ∷ 166 ∷ [])
ellipsis = record { utf8 = subst IsUtf8 ellipsis_is (IsUtf8-encode 0x2026 refl); none = ap (list_all (λ c. not (is_hidden c))) chars_ellipsis }

cut : (b : Bool) → Clear (ellipsis_if b)
cut true = ellipsis
cut false = empty

-- ---- fields

scalars_take : (n : ℕ) (cs : List ℕ) → scalars cs ≡ true → scalars (take n cs) ≡ true
scalars_take zero cs e = refl
scalars_take (suc n) [] e = refl
scalars_take (suc n) (c ∷ cs) e = let each = and_parts (scalar c) (scalars cs) e in and_from (scalar c) (scalars (take n cs)) each.0 (scalars_take n cs each.1)

each_is_marked : Marks (λ c. is_hidden c) (λ c. false)
each_is_marked c = or-not_self (is_hidden c)

characters : (cs : List ℕ) → scalars cs ≡ true → Clear (shown_all (λ c. is_hidden c) cs)
characters cs e = record { utf8 = shown_utf8 (λ c. is_hidden c) cs e; none = none_hidden (λ c. is_hidden c) (λ c. false) cs each_is_marked e }

field_is_clear : (field : List ℕ) → Clear (marked field)
field_is_clear field =
    let cs = chars (utf8_lossy field) in
    next (shown_all (λ c. is_hidden c) (take most cs)) (ellipsis_if (nat_lt most (length cs)))
    (characters (take most cs) (scalars_take most cs (scalars-chars (utf8_lossy field) (lossy field)))) (cut (nat_lt most (length cs)))

pub cell_hides_nothing : (field : List ℕ) (columns : ℕ) → hides_nothing (cell field columns) ≡ true
cell_hides_nothing field columns =
    (next (marked field ++ blanks (columns - width (marked field))) (blanks 2)
    (next (marked field) (blanks (columns - width (marked field))) (field_is_clear field) (all_blanks (columns - width (marked field)))) (all_blanks 2)).none
