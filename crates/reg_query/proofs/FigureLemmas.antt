-- Counts of a list, and of what it maps to.
use Rattle.std.proofs.Common.{◌≡◌, ◌+◌, Bool, cond, List, [], ◌∷◌, map, refl, sym, ap, ◌∙◌}
use Rattle.std.proofs.lemmas.List.Sums.{sum_by-cons}
use Rattle.std.specs.List.{count_by}

pub count_map : {A B : Type 0} (f : A → B) (p : B → Bool) (xs : List A) → count_by (λ (x : A). p (f x)) xs ≡ count_by p (map f xs)
count_map f p [] = refl
count_map {A = A} {B = B} f p (x ∷ xs) =
    sum_by-cons (λ (y : A). cond (p (f y)) 1 0) x xs
    ∙ ap (λ n. cond (p (f x)) 1 0 + n) (count_map f p xs)
    ∙ sym (sum_by-cons (λ (y : B). cond (p y) 1 0) (f x) (map f xs))
