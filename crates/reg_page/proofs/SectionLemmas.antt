-- A section is its start, its items and its end; without items it is empty.
use Rattle.std.proofs.Common.{◌≡◌, ℕ, ◌==◌, true, false, List, [], ◌∷◌, map, length, arith}
use Rattle.std.proofs.lemmas.Bool.{true≢false, eqb-true, false_from_ne_true}
use Rattle.std.specs.List.{flat_map}
use Rattle.html_page.specs.Pieces.{Piece, Markup, Appends}
use Rattle.html_page.proofs.JoinLemmas.{next, nothing}
use Rattle.html_page.specs.Templates.{section}

never : {T : Type 0} (x : T) (xs : List T) → (length (x ∷ xs) == 0) ≡ true → ⊥
never x xs e = omega (arith, eqb-true (length (x ∷ xs)) 0 e)

full : {T : Type 0} (x : T) (xs : List T) → (length (x ∷ xs) == 0) ≡ false
full x xs = false_from_ne_true _ (never x xs)

pub no_section : {T U : Type 0} (start end : List ℕ) (item : U → List Piece) (g : T → U) (xs : List T) (page : List ℕ) → (length xs == 0) ≡ true → Appends page page (section start item end (map g xs))
no_section start end item g [] page e = nothing page
no_section start end item g (x ∷ xs) page e = absurd (never x xs e)

pub section_of : {T U : Type 0} (start end : List ℕ) (item : U → List Piece) (g : T → U) (xs : List T) {first second third last : List ℕ} → (length xs == 0) ≡ false
    → Appends first second (Markup start ∷ []) → Appends second third (flat_map item (map g xs)) → Appends third last (Markup end ∷ []) → Appends first last (section start item end (map g xs))
section_of start end item g [] e one two three = absurd (true≢false e)
section_of start end item g (x ∷ xs) e one two three = rw (full (g x) (map g xs)) (next (next one two) three)
