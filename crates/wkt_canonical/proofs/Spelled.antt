-- Words that are spelled as in canonical texts.
use Rattle.std.proofs.Common.{◌≡◌, ℕ, Bool, false, List, ◌++◌, sym, ap, ◌∙◌, nat_eq}
use Rattle.std.specs.Prelude.{not}
use Rattle.std.specs.Cmp.Lexicographic.{pointwise, same_text}
use Rattle.std.proofs.lemmas.Bool.{not-false}

-- if the letters do not differ from the canonical spelling, the text begins with this spelling
pub spelled : {text word own : List ℕ} {differ : Bool} (letters rest : List ℕ) → text ≡ letters ++ rest → word ≡ own → differ ≡ not (pointwise nat_eq word letters) → differ ≡ false → text ≡ own ++ rest
spelled {word = word} letters rest cut is test same =
    cut ∙ ap (λ l. l ++ rest) (sym (same_text word letters (sym (not-false (pointwise nat_eq word letters) (sym test ∙ same)))) ∙ is)
