-- Two lists that are related element by element, with one more element of each.
use Rattle.std.proofs.Common.{◌≡◌, ◌<◌, ◌+◌, ◌++◌, ℕ, List, [], ◌∷◌, map, take, length, get_or, sym, ap, ◌∙◌, subst}
use Rattle.std.proofs.lemmas.List.{map-append, take_more}
use Rattle.std.specs.List.{AllZip}

zip_push : {A B : Type 0} (P : A → B → Type 0) (xs : List A) (ys : List B) (x : A) (y : B) → AllZip P xs ys → P x y → AllZip P (xs ++ x ∷ []) (ys ++ y ∷ [])
zip_push P [] [] x y h is = (is, tt)
zip_push P [] (b ∷ ys) x y h is = absurd h
zip_push P (a ∷ xs) [] x y h is = absurd h
zip_push P (a ∷ xs) (b ∷ ys) x y h is = (h.0, zip_push P xs ys x y h.1 is)

pub zip_more : {X Y A B : Type 0} (f : X → A) (g : Y → B) (P : A → B → Type 0) (xs : List X) (ys zs : List Y) (i : ℕ) (d : X) (y : Y) → i < length xs → AllZip P (map f (take i xs)) (map g ys)
    → P (f (get_or xs i d)) (g y) → zs ≡ ys ++ y ∷ [] → AllZip P (map f (take (i + 1) xs)) (map g zs)
zip_more f g P xs ys zs i d y within before is pushed =
    let first = ap (map f) (take_more xs i d within) ∙ map-append f (take i xs) (get_or xs i d ∷ []) in
    let second = ap (map g) pushed ∙ map-append g ys (y ∷ []) in
    subst (λ l. AllZip P l (map g zs)) (sym first)
    (subst (AllZip P (map f (take i xs) ++ f (get_or xs i d) ∷ [])) (sym second) (zip_push P (map f (take i xs)) (map g ys) (f (get_or xs i d)) (g y) before is))
