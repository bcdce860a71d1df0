-- A list that is made item by item of another one.
use Rattle.std.proofs.Common.{◌≡◌, ℕ, ◌+◌, ◌<◌, List, [], ◌∷◌, ◌++◌, length, take, get_or, map, sym, ap, ◌∙◌}
use Rattle.std.proofs.lemmas.List.{take_more, map-append}

-- the item at i was made too
pub one_more : {X : Type 0} {Y : Type 0} (f : X → Y) (all : List Y) (i : ℕ) (item : Y) (made next : List X) (one : X)
    → i < length all → item ≡ get_or all i item → map f made ≡ take i all → next ≡ made ++ one ∷ [] → f one ≡ item → map f next ≡ take (i + 1) all
one_more f all i item made next one below is so grown same =
    let here : take (i + 1) all ≡ take i all ++ item ∷ [] = take_more all i item below ∙ ap (λ y. take i all ++ y ∷ []) (sym is) in
    ap (map f) grown ∙ map-append f made (one ∷ []) ∙ ap (λ l. l ++ f one ∷ []) so ∙ ap (λ y. take i all ++ y ∷ []) same ∙ sym here
