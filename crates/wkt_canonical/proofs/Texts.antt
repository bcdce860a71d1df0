-- Texts between marks.
use Rattle.std.proofs.Common.{◌≡◌, ℕ, zero, suc, ◌+◌, ◌<◌, true, false, List, [], ◌∷◌, ◌++◌, take, drop, get_or, Some, refl, sym, ap, ◌∙◌, append_assoc, arith, inl, inr}
use Rattle.std.specs.Prelude.{position}
use Rattle.std.specs.List.{flat_map}
use Rattle.std.specs.Str.{is_utf8}
use Rattle.std.proofs.lemmas.List.{take-append-drop, drop_more}
use Rattle.std.proofs.lemmas.List.Quantifiers.{position-Some}
use Rattle.wkt_tree.specs.Tokens.{doubled, is_mark}
use Rattle.wkt_tree.proofs.Lexemes.{by_mark, body-plain}
use Rattle.wkt_grammar.specs.Trees.{text_tree}
use Rattle.wkt_canonical.specs.Ends.{IsEndOfText}
use Rattle.wkt_canonical.specs.Reads.{ReadsFirst, ReadsText, any}

mark_is : (x : ℕ) → x ≡ 34 → is_mark x ≡ false → ⊥
mark_is x e h = grind arith

is_34 : (x : ℕ) → is_mark x ≡ true → x ≡ 34
is_34 x h = grind arith

-- doubling marks does not change bytes without a mark
unmarked : (xs : List ℕ) (i : ℕ) → ((k : ℕ) → k < i → is_mark (get_or xs k 0) ≡ false) → flat_map doubled (take i xs) ≡ take i xs
unmarked xs zero h = refl
unmarked [] (suc i) h = refl
unmarked (x ∷ xs) (suc i) h =
    elim (by_mark x) [
      | inl m ↦ absurd (mark_is x m.0 (h 0 (omega arith)))
      | inr n ↦ body-plain x (take i xs) n.1 ∙ ap (λ (l : List ℕ). x ∷ l) (unmarked xs i (λ k below. h (suc k) (omega arith)))
    ]

pub text_of_content : {content text rest : List ℕ} → ReadsText content text rest → ReadsFirst any text_tree text rest
text_of_content r = record { value = r.value; passes = refl; is = r.is }

-- a list up to the place of the first mark, the mark, and what is behind it
at_mark : (xs : List ℕ) (i : ℕ) → position is_mark xs ≡ Some i → xs ≡ take i xs ++ (34 ∷ drop (i + 1) xs)
at_mark xs i p =
    let s = position-Some is_mark xs i 0 p in
    let mark : get_or xs i 0 ≡ 34 = is_34 (get_or xs i 0) s.1 in
    sym (take-append-drop i xs) ∙ ap (λ l. take i xs ++ l) (drop_more xs i 0 s.0 ∙ ap (λ (x : ℕ). x ∷ drop (i + 1) xs) mark)

pub text_read : {text inside content rest : List ℕ} (i : ℕ) → text ≡ 34 ∷ inside → IsEndOfText inside i → content ≡ take i inside → rest ≡ drop (i + 1) inside → ReadsText content text rest
text_read {text} {inside} {content} {rest} i e end c r =
    let s = position-Some is_mark inside i 0 end.first in
    let same : flat_map doubled content ≡ content = rw c (unmarked inside i s.2) in
    let both : inside ≡ content ++ (34 ∷ rest) = rw (c, r) (at_mark inside i end.first) in
    let regroup : 34 ∷ (content ++ (34 ∷ rest)) ≡ (34 ∷ (content ++ 34 ∷ [])) ++ rest = simp append_assoc in
    record {
      value = record { bytes = content; utf8 = ap is_utf8 c ∙ end.utf8 };
      content_is = refl;
      is = e ∙ (ap (λ (l : List ℕ). 34 ∷ l) both ∙ (regroup ∙ ap (λ (l : List ℕ). (34 ∷ (l ++ 34 ∷ [])) ++ rest) (sym same)));
    }
