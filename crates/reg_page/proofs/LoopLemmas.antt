-- The ends of loops that append pieces.
use Rattle.std.proofs.Common.{◌≡◌, List, [], ◌∷◌, ◌++◌, ◌+◌, ◌<◌, map, take, length, get_or, append-nil, refl, sym, ap, ◌∙◌, ℕ}
use Rattle.std.proofs.lemmas.List.{take_more, map-append}
use Rattle.std.specs.List.{flat_map}
use Rattle.std.proofs.lemmas.Grind.{flat_map-append}
use Rattle.std.proofs.lemmas.List.Folds.{flat_map-map}
use Rattle.html_page.specs.Pieces.{Piece, html, Appends}
use Rattle.html_page.proofs.JoinLemmas.{Leads, leads_done, next}

pub flat_map-flat_map : {A B C : Type 0} (f : B → List C) (g : A → List B) (xs : List A) → flat_map f (flat_map g xs) ≡ flat_map (λ x. flat_map f (g x)) xs
flat_map-flat_map f g [] = refl
flat_map-flat_map f g (x ∷ xs) = flat_map-append f (g x) (flat_map g xs) ∙ ap (λ r. flat_map f (g x) ++ r) (flat_map-flat_map f g xs)

pub as_others : {start end : List ℕ} (ps qs : List Piece) → ps ≡ qs → Appends start end ps → Appends start end qs
as_others {start = start} {end = end} ps qs e h = record { is = h.is ∙ ap (λ r. start ++ html r) e }

-- a loop that appends f (g x) for each item x appends the pieces that f gives for map g
pub mapped : {T U : Type 0} (f : U → List Piece) (g : T → U) {page : List ℕ} {rest : List T} (start : List ℕ) (items : List T)
    → Leads (λ x. f (g x)) page rest (start ++ html (flat_map (λ x. f (g x)) items)) → rest ≡ [] → Appends start page (flat_map f (map g items))
mapped f g start items so_far none = as_others (flat_map (λ x. f (g x)) items) (flat_map f (map g items)) (sym (flat_map-map f g items)) (leads_done start items so_far none)

-- a loop that appends the pieces that f gives for g x, for each item x, appends those for flat_map g
pub flattened : {T U : Type 0} (f : U → List Piece) (g : T → List U) {page : List ℕ} {rest : List T} (start : List ℕ) (items : List T)
    → Leads (λ x. flat_map f (g x)) page rest (start ++ html (flat_map (λ x. flat_map f (g x)) items)) → rest ≡ [] → Appends start page (flat_map f (flat_map g items))
flattened f g start items so_far none = as_others (flat_map (λ x. flat_map f (g x)) items) (flat_map f (flat_map g items)) (sym (flat_map-flat_map f g items)) (leads_done start items so_far none)

-- one iteration of a loop by index appends one more item
pub one_more : {T U : Type 0} (f : U → List Piece) (g : T → U) (xs : List T) (i : ℕ) (x : T) {start middle end : List ℕ} → i < length xs → x ≡ get_or xs i x
    → Appends start middle (flat_map f (map g (take i xs))) → Appends middle end (f (g x)) → Appends start end (flat_map f (map g (take (i + 1) xs)))
one_more f g xs i x lt is so_far item =
    let before = take i xs in
    let longer : take (i + 1) xs ≡ before ++ x ∷ [] = take_more xs i x lt ∙ ap (λ y. before ++ y ∷ []) (sym is) in
    let all : flat_map f (map g (take (i + 1) xs)) ≡ flat_map f (map g before) ++ f (g x) =
    ap (λ l. flat_map f (map g l)) longer ∙ ap (flat_map f) (map-append g before (x ∷ [])) ∙ flat_map-append f (map g before) (g x ∷ []) ∙ ap (λ l. flat_map f (map g before) ++ l) (append-nil (f (g x))) in
    as_others (flat_map f (map g before) ++ f (g x)) (flat_map f (map g (take (i + 1) xs))) (sym all) (next so_far item)
