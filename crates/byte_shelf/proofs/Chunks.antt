-- One more chunk of the bytes from an offset on.
use Rattle.std.proofs.Common.{◌≡◌, ℕ, ◌+◌, ◌++◌, List, length, take, drop, sym, ap, ◌∙◌, take-add}
use Rattle.std.proofs.lemmas.List.{drop-drop}

pub one_more : (s bytes more : List ℕ) (at k : ℕ) → bytes ≡ take (length bytes) (drop at s) → more ≡ bytes ++ take k (drop (at + length bytes) s) → length more ≡ length bytes + k → more ≡ take (length more) (drop at s)
one_more s bytes more at k front is long =
    is ∙ ap (λ (t : List ℕ). t ++ take k (drop (at + length bytes) s)) front
    ∙ ap (λ (t : List ℕ). take (length bytes) (drop at s) ++ take k t) (sym (drop-drop (length bytes) at s))
    ∙ sym (take-add (length bytes) k (drop at s)) ∙ ap (λ (n : ℕ). take n (drop at s)) (sym long)
