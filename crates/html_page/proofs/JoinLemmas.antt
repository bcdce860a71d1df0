-- Pages that are made of pieces: lemmas for the crates that use this one.
use Rattle.std.proofs.Common.{◌≡◌, ℕ, List, [], ◌∷◌, ◌++◌, map, Option, Some, None, refl, sym, ap, ◌∙◌, append_assoc, append-nil}
use Rattle.std.specs.List.{flat_map}
use Rattle.std.proofs.lemmas.Grind.{flat_map-append}
use Rattle.std.proofs.lemmas.List.{map-append}
use Rattle.html_page.specs.Pieces.{Piece, bytes_of, html, Appends, blank}
use Rattle.html_page.specs.Places.{Context, Content, past, past_all}
use Rattle.html_page.proofs.PlaceLemmas.{past_none}

-- ---- bytes

pub html-append : (ps qs : List Piece) → html (ps ++ qs) ≡ html ps ++ html qs
unfolding html
html-append ps qs = flat_map-append bytes_of ps qs

-- two calls in turn append the pieces of both
pub next : {start middle end : List ℕ} {ps qs : List Piece} → Appends start middle ps → Appends middle end qs → Appends start end (ps ++ qs)
next {start = start} {middle = middle} {end = end} {ps = ps} {qs = qs} one two =
    record { is = two.is ∙ ap (λ m. m ++ html qs) one.is ∙ append_assoc start (html ps) (html qs) ∙ ap (λ m. start ++ m) (sym (html-append ps qs)) }

pub nothing : (page : List ℕ) → Appends page page []
unfolding html
nothing page = record { is = sym (append-nil page) }

-- ---- places

pub past_all-append : (o : Option Context) (ps qs : List Piece) → past_all o (ps ++ qs) ≡ past_all (past_all o ps) qs
past_all-append o [] qs = refl
past_all-append None (p ∷ ps) qs = sym (past_none qs)
past_all-append (Some here) (p ∷ ps) qs = past_all-append (past here p) ps qs

-- the pieces lead from between tags to between tags, and each text is where it may be
pub record Closed (ps : List Piece) : Type 0 where
  pub is : past_all (Some Content) ps ≡ Some Content

pub is_closed : (ps : List Piece) → past_all (Some Content) ps ≡ Some Content → Closed ps
is_closed ps e = record { is = e }

pub closed-append : {ps qs : List Piece} → Closed ps → Closed qs → Closed (ps ++ qs)
closed-append {ps = ps} {qs = qs} one two = record { is = past_all-append (Some Content) ps qs ∙ ap (λ o. past_all o qs) one.is ∙ two.is }

pub closed-flat_map : {T : Type 0} (f : T → List Piece) → ((x : T) → Closed (f x)) → (xs : List T) → Closed (flat_map f xs)
closed-flat_map f each [] = record { is = refl }
closed-flat_map f each (x ∷ xs) = closed-append (each x) (closed-flat_map f each xs)

-- ---- pieces without their texts

-- the pieces are the same, except for their texts
pub record Alike (ps qs : List Piece) : Type 0 where
  pub is : map blank ps ≡ map blank qs

pub is_alike : (ps qs : List Piece) → map blank ps ≡ map blank qs → Alike ps qs
is_alike ps qs e = record { is = e }

pub alike-append : {ps qs ps' qs' : List Piece} → Alike ps ps' → Alike qs qs' → Alike (ps ++ qs) (ps' ++ qs')
alike-append {ps = ps} {qs = qs} {ps' = ps'} {qs' = qs'} one two =
    record { is = map-append blank ps qs ∙ ap (λ bs. bs ++ map blank qs) one.is ∙ ap (λ bs. map blank ps' ++ bs) two.is ∙ sym (map-append blank ps' qs') }

pub alike-flat_map : {T : Type 0} (f : T → List Piece) (shape : T → T) → ((x : T) → Alike (f x) (f (shape x))) → (xs : List T) → Alike (flat_map f xs) (flat_map f (map shape xs))
alike-flat_map f shape each [] = record { is = refl }
alike-flat_map f shape each (x ∷ xs) = alike-append (each x) (alike-flat_map f shape each xs)

-- ---- loops

-- the page so far, followed by the pieces of the remaining items, is the whole page
pub record Leads {T : Type 0} (f : T → List Piece) (page : List ℕ) (rest : List T) (all : List ℕ) : Type 0 where
  pub is : page ++ html (flat_map f rest) ≡ all

pub leads_init : {T : Type 0} (f : T → List Piece) (page : List ℕ) (items : List T) → Leads f page items (page ++ html (flat_map f items))
leads_init f page items = record { is = refl }

pub leads_more : {T : Type 0} {f : T → List Piece} {page new : List ℕ} {items rest : List T} {x : T} {all : List ℕ} → Leads f page items all → items ≡ x ∷ rest → Appends page new (f x) → Leads f new rest all
leads_more {f = f} {page = page} {new = new} {items = items} {rest = rest} {x = x} {all = all} so_far split pushed =
    record {
      is =
          ap (λ m. m ++ html (flat_map f rest)) pushed.is ∙ append_assoc page (html (f x)) (html (flat_map f rest))
          ∙ ap (λ m. page ++ m) (sym (html-append (f x) (flat_map f rest))) ∙ ap (λ is. page ++ html (flat_map f is)) (sym split) ∙ so_far.is;
    }

pub leads_done : {T : Type 0} {f : T → List Piece} {page : List ℕ} {rest : List T} (start : List ℕ) (items : List T) → Leads f page rest (start ++ html (flat_map f items)) → rest ≡ [] → Appends start page (flat_map f items)
unfolding html
leads_done {f = f} {page = page} start items so_far none =
    record { is = sym (append-nil page) ∙ ap (λ is. page ++ html (flat_map f is)) (sym none) ∙ so_far.is }
