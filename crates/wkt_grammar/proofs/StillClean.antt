-- A tree that is clean in the first edition is clean in the second.
use Rattle.std.proofs.Common.{◌≡◌, ℕ, Bool, true, false, cond, List, [], ◌∷◌, ◌++◌, refl, subst}
use Rattle.std.specs.Prelude.{◌||◌, not}
use Rattle.std.specs.List.{filter, list_all}
use Rattle.std.proofs.lemmas.Bool.{and_parts}
use Rattle.wkt_tree.specs.Tree.{Piece, Tok, Items, tokens}
use Rattle.wkt_tree.specs.Tree as tree
use Rattle.wkt_tree.specs.Tokens.{Cut}
use Rattle.wkt_grammar.specs.declared.table.Edition.TheVariants as editions
use Rattle.wkt_grammar.specs.declared.table.Slot.{Slot}
use Rattle.wkt_grammar.specs.declared.table.Node.{Node}
use Rattle.wkt_grammar.specs.declared.table.Node.TheVariants as nodes
use Rattle.wkt_grammar.specs.declared.table.Takes.{Takes}
use Rattle.wkt_grammar.specs.Editions.{is_added}
use Rattle.wkt_grammar.specs.Rows.{row_of, is_required}
use Rattle.wkt_grammar.proofs.Editions.{passes, none_of, added_may_stay, rows_without}
use Rattle.wkt_grammar.specs.Slots.{IsClean}
use Rattle.wkt_grammar.specs.Bare.{Bare, Bares, text, number, word, node, none, and, args, bare}
use Rattle.wkt_grammar.specs.Fitted.{Fitted, Fitting, AllFitting, Cuts}
use Rattle.wkt_grammar.proofs.Fitting.{clean_fitted, fitted_cuts, cuts_fitted}
use Rattle.wkt_grammar.proofs.Clean.{fitted_clean}

-- an argument that fits a slot by the first edition fits it by the second
abbrev Stays : Bare → Type 0
Stays x = (t : Takes) → Fitting editions.First t x → Fitting editions.Second t x

abbrev EachStays : List Bare → Type 0
EachStays [] = Unit {0}
EachStays (x ∷ xs) = Stays x × EachStays xs

parts_stay : (a b : List Bare) → EachStays (a ++ b) → EachStays a × EachStays b
parts_stay [] b h = (tt, h)
parts_stay (x ∷ a) b h = let r = parts_stay a b h.1 in ((h.0, r.0), r.1)

run_stays : (t : Takes) (xs : List Bare) → EachStays xs → AllFitting editions.First t xs → AllFitting editions.Second t xs
run_stays t [] h f = tt
run_stays t (x ∷ xs) h f = (h.0 t f.0, run_stays t xs h.1 f.1)

-- arguments that fit the slots that pass p fit the whole row, if all other slots may stay empty
cuts_stay : (p : Slot → Bool) (row : List Slot) (xs : List Bare) → list_all (passes p) row ≡ true → EachStays xs → Cuts editions.First (filter p row) xs → Cuts editions.Second row xs
cuts_stay p [] xs h l c = c
cuts_stay p (s ∷ row) xs h l c =
    let parts = and_parts (passes p s) (list_all (passes p) row) h in
    elim (p s) as (λ b. (b || not (is_required s.often)) ≡ true → Cuts editions.First (cond b (s ∷ filter p row) (filter p row)) xs → Cuts editions.Second (s ∷ row) xs) [
      | true ↦ λ q g. let k = parts_stay g.0 g.1 (subst EachStays g.2 l) in (g.0, g.1, g.2, run_stays s.takes g.0 k.0 g.3, g.4, cuts_stay p row g.1 parts.1 k.1 g.5)
      | false ↦ λ q g. ([], xs, refl, tt, none_of s.often q, cuts_stay p row xs parts.1 l g)
    ] parts.0 c

row_stays : (n : Node) (xs : Bares) → EachStays (args xs) → Fitted editions.First n xs → Fitted editions.Second n xs
row_stays n xs l f =
    cuts_fitted editions.Second n xs
    (cuts_stay (λ s. not (is_added s.takes)) (row_of editions.Second n) (args xs) (added_may_stay n) l (subst (λ r. Cuts editions.First r (args xs)) (rows_without n) (fitted_cuts editions.First n xs f)))

mutual
  stays : (x : Bare) → Stays x
  stays (text b) t f = record { taken = f.taken; sound = tt }
  stays (number b) t f = record { taken = f.taken; sound = tt }
  stays (word b) t f = record { taken = f.taken; sound = tt }
  stays (node k xs) t f = record { taken = f.taken; sound = λ m e. row_stays m xs (each_stays xs) (f.sound m e) }

  each_stays : (xs : Bares) → EachStays (args xs)
  each_stays none = tt
  each_stays (and x xs) = (stays x, each_stays xs)

pub still_clean : (bytes : List ℕ) (ts : List Tok) → Cut 0 bytes ts → IsClean editions.First ts → IsClean editions.Second ts
still_clean bytes ts cut clean k d o items c e =
    let t = tree.node k d o items c in
    let whole = row_stays nodes.Root (and (bare t) none) (each_stays (and (bare t) none)) (clean_fitted editions.First ts clean k d o items c e) in
    fitted_clean editions.Second bytes k d o items c (subst (λ l. Cut 0 bytes l) e cut) whole
