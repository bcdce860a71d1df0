-- The pieces of gaps, and their section of the page.
use Rattle.std.proofs.Common.{◌≡◌, ◌==◌, ◌<◌, ℕ, false, cond, List, [], ◌∷◌, ◌++◌, length, map, refl, sym, ap, ◌∙◌, arith}
use Rattle.std.proofs.lemmas.Bool.{eqb-true, false_from_ne_true}
use Rattle.std.proofs.lemmas.List.{map-append}
use Rattle.std.proofs.lemmas.Grind.{flat_map-append}
use Rattle.std.specs.List.{flat_map}
use Rattle.html_page.specs.Pieces.{Markup, Appends}
use Rattle.html_page.specs.Templates.{gap}
use Rattle.html_page.specs.declared.markup.TheConstants.{GAPS_START, GAPS_END}
use Rattle.html_page.proofs.JoinLemmas.{nothing}
use Rattle.reg_report.specs.declared.gap.Gap.{Gap}
use Rattle.reg_page.specs.Page.{gap_of}
use Rattle.reg_page.specs.Blocks.{gap_pieces, gap_section}
use Rattle.reg_page.proofs.LoopLemmas.{as_others}

pub pieces_apart : (read : List ℕ → List ℕ) (gs hs : List Gap) → gap_pieces read (gs ++ hs) ≡ gap_pieces read gs ++ gap_pieces read hs
pieces_apart read gs hs = ap (flat_map (gap read)) (map-append gap_of gs hs) ∙ flat_map-append (gap read) (map gap_of gs) (map gap_of hs)

pub no_gap_pushed : (read : List ℕ → List ℕ) (gs : List Gap) (page : List ℕ) → gs ≡ [] → Appends page page (gap_pieces read gs)
no_gap_pushed read gs page none = as_others [] (gap_pieces read gs) (sym (ap (gap_pieces read) none)) (nothing page)

pub empty_section : (read : List ℕ → List ℕ) (gs : List Gap) → length gs ≡ 0 → gap_section read gs ≡ []
empty_section read [] e = refl
empty_section read (g ∷ gs) e = absurd (omega (arith, e))

pub full_section : (read : List ℕ → List ℕ) (gs : List Gap) → 0 < length gs → gap_section read gs ≡ (Markup GAPS_START.now ∷ []) ++ gap_pieces read gs ++ Markup GAPS_END.now ∷ []
full_section read [] e = absurd (omega (arith, e))
full_section read (g ∷ gs) e =
    let some : (length (map gap_of (g ∷ gs)) == 0) ≡ false = false_from_ne_true _ (λ t. omega (arith, eqb-true (length (map gap_of (g ∷ gs))) 0 t)) in
    ap (λ t. cond t [] ((Markup GAPS_START.now ∷ []) ++ gap_pieces read (g ∷ gs) ++ Markup GAPS_END.now ∷ [])) some
