-- The entries of a list for which a test holds, taken one by one; and pairs of neighbours.
use Rattle.std.proofs.Common.{◌≡◌, ℕ, ◌+◌, ◌<◌, Bool, List, [], ◌∷◌, ◌++◌, take, length, get_or, filter, sym, ap, ◌∙◌, append_assoc, append-nil}
use Rattle.std.specs.List.{flat_map}
use Rattle.std.proofs.lemmas.Grind.{flat_map-append}
use Rattle.std.specs.Borrow.{Bor}
use Rattle.std.proofs.lemmas.List.{take_more, map-append}
use Rattle.std.proofs.lemmas.List.Elements.{filter-append}
use Rattle.reg_page.specs.declared.described.Described.{Described}
use Rattle.reg_page.specs.Descriptions.{at}
use Rattle.html_page.specs.Pieces.{Piece, html, Appends}
use Rattle.html_page.proofs.JoinLemmas.{html-append}
use Rattle.html_page.specs.Templates.{pair}
use Rattle.reg_op.specs.Ids.{Id}
use Rattle.reg_page.specs.Page.{described_at, pairs_of, pairs_from}

pub part_more : (p : Described → Bool) (rows : List (Bor Described)) (i : ℕ) (x : Bor Described) (made new : List Described) → i < length rows → x ≡ get_or rows i x
    → made ≡ filter p (at (take i rows)) → new ≡ made ++ filter p (x.now ∷ []) → new ≡ filter p (at (take (i + 1) rows))
part_more p rows i x made new lt is so_far pushed =
    pushed ∙ ap (λ l. l ++ filter p (x.now ∷ [])) so_far
    ∙ sym (filter-append p (at (take i rows)) (x.now ∷ []))
    ∙ ap (filter p) (sym (map-append (λ (t : Bor Described). t.now) (take i rows) (x ∷ [])))
    ∙ ap (λ l. filter p (at l)) (sym (take_more rows i x lt ∙ ap (λ y. take i rows ++ y ∷ []) (sym is)))

pub pair_step : (named : List ℕ → List ℕ) (ts : List Described) (last second : Id) (later rest : List Id) (page new all : List ℕ) → rest ≡ second ∷ later
    → Appends page new (flat_map (pair named) (pairs_of (described_at ts last) (described_at ts second))) → page ++ html (flat_map (pair named) (pairs_from ts last rest)) ≡ all
    → new ++ html (flat_map (pair named) (pairs_from ts second later)) ≡ all
pair_step named ts last second later rest page new all is pushed so_far =
    let first : List Piece = flat_map (pair named) (pairs_of (described_at ts last) (described_at ts second)) in
    let rests : List Piece = flat_map (pair named) (pairs_from ts second later) in
    ap (λ m. m ++ html rests) pushed.is ∙ append_assoc page (html first) (html rests) ∙ ap (λ m. page ++ m) (sym (html-append first rests))
    ∙ ap (λ m. page ++ html m) (sym (flat_map-append (pair named) (pairs_of (described_at ts last) (described_at ts second)) (pairs_from ts second later)))
    ∙ ap (λ l. page ++ html (flat_map (pair named) (pairs_from ts last l))) (sym is) ∙ so_far

pub pairs_done : (named : List ℕ → List ℕ) (ts : List Described) (last : Id) (rest : List Id) (start page : List ℕ) (ps : List Piece) → page ++ html (flat_map (pair named) (pairs_from ts last rest)) ≡ start ++ html ps → rest ≡ [] → Appends start page ps
unfolding html
pairs_done named ts last rest start page ps so_far none = record { is = sym (append-nil page) ∙ ap (λ l. page ++ html (flat_map (pair named) (pairs_from ts last l))) (sym none) ∙ so_far }
