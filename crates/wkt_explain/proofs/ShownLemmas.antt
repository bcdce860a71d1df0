-- Steps of the loops that show a line.
use Rattle.std.proofs.Common.{◌≡◌, ℕ, zero, suc, ◌-◌, ◌<◌, List, [], ◌∷◌, ◌++◌, take, refl, ap, sym, ◌∙◌, arith, append_assoc}
use Rattle.std.proofs.lemmas.List.{append-nil}
use Rattle.wkt_explain.specs.Characters.{chars}
use Rattle.wkt_explain.specs.Shown.{shown_char, shown, blanks}
use Rattle.wkt_explain.proofs.CharLemmas.{chars-nil}

pub blank_more : (out : List ℕ) (n : ℕ) → 0 < n → (out ++ 32 ∷ []) ++ blanks (n - 1) ≡ out ++ blanks n
blank_more out zero h = absurd (omega arith)
blank_more out (suc n) h =
    let e : suc n - 1 ≡ n = omega arith in
    append_assoc out (32 ∷ []) (blanks (suc n - 1)) ∙ ap (λ m. out ++ 32 ∷ blanks m) e

pub char_more : (out : List ℕ) (n : ℕ) (xs : List (List ℕ)) (c : List ℕ) (cs : List (List ℕ)) → 0 < n → xs ≡ c ∷ cs
    → (out ++ shown_char c) ++ shown (take (n - 1) cs) ≡ out ++ shown (take n xs)
char_more out zero xs c cs h e = absurd (omega arith)
char_more out (suc n) xs c cs h e =
    let f : suc n - 1 ≡ n = omega arith in
    append_assoc out (shown_char c) (shown (take (suc n - 1) cs))
    ∙ ap (λ m. out ++ (shown_char c ++ shown (take m cs))) f
    ∙ sym (ap (λ ys. out ++ shown (take (suc n) ys)) e)

none_of : (n : ℕ) → shown (take n (chars [])) ≡ []
none_of zero = refl
none_of (suc n) = ap (λ ys. shown (take (suc n) ys)) chars-nil

pub none_shown : (n : ℕ) (rest out all : List ℕ) → rest ≡ [] → out ++ shown (take n (chars rest)) ≡ all → out ≡ all
none_shown n rest out all e h =
    sym (append-nil out) ∙ ap (λ x. out ++ x) (sym (none_of n)) ∙ ap (λ r. out ++ shown (take n (chars r))) (sym e) ∙ h
