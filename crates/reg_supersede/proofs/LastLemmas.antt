-- The last item of a list is one item.
use Rattle.std.specs.Prelude.{List, [], ◌∷◌, ◌++◌}
use Rattle.std.proofs.Common.{◌≡◌, refl, sym, ap, ◌∙◌}

abbrev last_of : {A : Type 0} → A → List A → A
last_of d [] = d
last_of d (x ∷ xs) = last_of x xs

last_of_end : {A : Type 0} (d : A) (a : List A) (x : A) → last_of d (a ++ x ∷ []) ≡ x
last_of_end d [] x = refl
last_of_end d (b ∷ a) x = last_of_end b a x

pub same_end : {A : Type 0} (a b : List A) (x y : A) → a ++ x ∷ [] ≡ b ++ y ∷ [] → x ≡ y
same_end a b x y e = sym (last_of_end x a x) ∙ ap (last_of x) e ∙ last_of_end x b y
