-- The fields of a record, one after another.
use Rattle.std.proofs.Common.{◌≡◌, ◌∙◌, ◌++◌, ◌∷◌, ◌+◌, [], ℕ, zero, suc, List, Some, None, drop, refl, sym, ap, append_assoc, add-one}
use Rattle.std.proofs.lemmas.List.{append-nil}
use Rattle.csv.specs.Records.{field_at}

drop_field : (fs : List (List ℕ)) (i : ℕ) (f : List ℕ) → Some f ≡ field_at fs i → drop i fs ≡ f ∷ drop (suc i) fs
unfolding field_at
drop_field [] i f e = cc
drop_field (g ∷ fs) zero f e = cc
drop_field (g ∷ fs) (suc i) f e = drop_field fs i f e

drop_none : (fs : List (List ℕ)) (i : ℕ) → None ≡ field_at fs i → drop i fs ≡ []
unfolding field_at
drop_none [] zero e = refl
drop_none [] (suc i) e = refl
drop_none (g ∷ fs) zero e = cc
drop_none (g ∷ fs) (suc i) e = drop_none fs i e

-- after one more field is taken, the fields so far and those that remain are still all fields
pub took : (made fs all : List (List ℕ)) (i : ℕ) (f : List ℕ) → made ++ drop i fs ≡ all → Some f ≡ field_at fs i → (made ++ f ∷ []) ++ drop (i + 1) fs ≡ all
took made fs all i f so_far e = ap (λ n. (made ++ f ∷ []) ++ drop n fs) (add-one i) ∙ append_assoc made (f ∷ []) (drop (suc i) fs) ∙ ap (λ l. made ++ l) (sym (drop_field fs i f e)) ∙ so_far

-- if no field remains, the fields so far are all fields
pub ended : (made fs all : List (List ℕ)) (i : ℕ) → made ++ drop i fs ≡ all → None ≡ field_at fs i → made ≡ all
ended made fs all i so_far e = sym (append-nil made) ∙ ap (λ l. made ++ l) (sym (drop_none fs i e)) ∙ so_far
