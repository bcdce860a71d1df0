-- The next text of a file, and the texts so far.
use Rattle.std.proofs.Common.{◌≡◌, ℕ, zero, suc, ◌+◌, ◌<◌, ◌≤◌, inl, inr, List, [], ◌∷◌, ◌++◌, length, take, drop, arith, sym, ◌∙◌, ap, subst, length-append, append_assoc, append-nil}
use Rattle.std.specs.List.{AllPass}
use Rattle.std.proofs.lemmas.List.{take-append-drop, length-take-le}
use Rattle.wkt_tree.specs.Bytes.{is_blank}
use Rattle.wkt_tree.specs.Tree.{Piece}
use Rattle.wkt_tree.specs.Tokens.{Stops, Blanks}
use Rattle.wkt_tree.proofs.Lexemes.{some_blanks}
use Rattle.wkt_compare.specs.Texts.{IsClosed, IsFirstText, IsNext, AreTexts, IsCutInto}

pub next_is : (place n m : ℕ) (bytes from text rest : List ℕ) → n ≤ length bytes → AllPass is_blank (take n bytes) → Stops is_blank (drop n bytes) → from ≡ drop n bytes
    → 0 < length from → IsFirstText from m → text ≡ take m from → rest ≡ drop m from → IsNext place bytes (record { place = place + n; bytes = text }) rest
next_is place n m bytes from text rest within all stops e some first et er = record {
  from = from;
  blank = subst (λ l. Blanks place bytes (place + n) l) (sym e) (some_blanks place bytes n within all);
  some = some;
  begins = subst (λ l. Stops is_blank l) (sym e) stops;
  whole = let h = take-append-drop m from in cc;
  text = subst (λ k. IsFirstText from k) (sym (ap length et ∙ length-take-le m from first.within)) first;
}

-- the empty text is not closed
pub none_closed : ¬ (IsClosed [])
none_closed h = omega (arith, h.closes)

-- the first text of some bytes is not empty
pub text_some : (bytes : List ℕ) (n : ℕ) → 0 < length bytes → IsFirstText bytes n → 0 < n
text_some bytes zero some first = elim first.ends [ inl h ↦ absurd (none_closed h) | inr e ↦ absurd (omega (arith, e, some)) ]
text_some bytes (suc n) some first = omega arith

pub next_len : (place : ℕ) (bytes : List ℕ) (cut : Piece) (rest : List ℕ) → IsNext place bytes cut rest → cut.place + length cut.bytes + length rest ≡ place + length bytes
next_len place bytes cut rest h = omega (arith, h.blank.moved, ap length h.blank.whole ∙ length-append h.blank.blanks h.from, ap length h.whole ∙ length-append cut.bytes rest)

pub next_less : (place : ℕ) (bytes : List ℕ) (cut : Piece) (rest : List ℕ) → IsNext place bytes cut rest → length rest < length bytes
next_less place bytes cut rest h = omega (arith, text_some h.from (length cut.bytes) h.some h.text, ap length h.blank.whole ∙ length-append h.blank.blanks h.from, ap length h.whole ∙ length-append cut.bytes rest)

-- the next text is appended to the texts so far
pub one_more : (file rest later : List ℕ) (place : ℕ) (cut : Piece) (made new : List Piece) → new ≡ made ++ cut ∷ []
    → ((more : List Piece) → AreTexts place rest more → IsCutInto file (made ++ more)) → IsNext place rest cut later
    → (more : List Piece) → AreTexts (cut.place + length cut.bytes) later more → IsCutInto file (new ++ more)
one_more file rest later place cut made new e so_far next more m =
    subst (λ cs. IsCutInto file cs) (sym (ap (λ cs. cs ++ more) e ∙ append_assoc made (cut ∷ []) more)) (so_far (cut ∷ more) (later, next, m))

pub none_more : (file rest : List ℕ) (place : ℕ) (made : List Piece) → ((more : List Piece) → AreTexts place rest more → IsCutInto file (made ++ more)) → AllPass is_blank rest → IsCutInto file made
none_more file rest place made so_far blank = subst (λ cs. IsCutInto file cs) (append-nil made) (so_far [] blank)
